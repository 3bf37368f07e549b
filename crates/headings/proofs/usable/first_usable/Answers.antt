-- `first_usable` meets its contract: the search passes each direction before the one that it finds.
use borrow.Author.Rules.{rules}
use borrow.Author.Tests.{tests}
use mathlib.Core.Path.{◌≡◌}
use mathlib.Core.Bool.{true, false}
use Rattle.std.proofs.lemmas.Iterator.{first_from_Range}
use Rattle.headings.specs.Usable.{usable}
use Rattle.headings.proofs.Directions.{first_told}
use Rattle.headings.proofs.usable.first_usable.Goals as goal

pub returns : goal.returns
returns c =
    let a = c.args in
    first_told a.width a.height a.setting _
    (first_from_Range _ _ _ _ (λ k. usable a.width a.height a.setting k ≡ true) (λ k. usable a.width a.height a.setting k ≡ false)
    c.find.ensures.ran (λ x q k. search (rules, tests)) (λ x q k. search (rules, tests)))
