-- `find` is std's search for a byte.
use borrow.Author.Rules.{rules}
use borrow.Author.Tests.{tests}
use Rattle.std.proofs.lemmas.Iterator.{YieldsList-from_slice}
use Rattle.std.proofs.lemmas.Iterator.Search.{position_from_yields_List}
use Rattle.text_lines.specs.Format.{is}
use Rattle.text_lines.proofs.Names.{first_position}
use Rattle.text_lines.proofs.value.find.Goals as goal

pub returns : goal.returns
unfolding is
returns c =
    let p = position_from_yields_List (is c.args.b) _ _ _ c.position.ensures.ran (YieldsList-from_slice c.args.s.now cc) (λ x b q k. search (rules, tests)) in
    rw (c.unwrap_or.ensures, p) (first_position (is c.args.b) c.args.s.now)
