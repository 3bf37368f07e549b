-- `value_at` looks for the newline and compares the name in front of it: each return is a law of the next line, at what the two searches found.
use native.Mathlib.Omega.{arith}
use mathlib.Core.Path.{◌≡◌, sym, ap, ◌∙◌}
use Prim.Native.Nat.{◌+◌, ◌-◌}
use lib.ListN.{length, take, drop, length-drop}
use lib.Seq.{take_all}
use Rattle.basics.specs.Lists.{first_of}
use Rattle.basics.proofs.Lists.{first_of_le}
use Rattle.text_lines.specs.Bytes.{newline}
use Rattle.text_lines.specs.Format.{is}
use Rattle.text_lines.proofs.Lines.{no_line, other_name, the_value, name_fits, missing}
use Rattle.text_lines.proofs.Names.{after_pointwise}
use Rattle.text_lines.proofs.value.value_at.Goals as goal
use Rattle.text_lines.proofs.value.value_at.Goals.{After-find}

pub returns-then-at-s : goal.returns-then-at-s
returns-then-at-s c = record { result_value = sym (missing c.args.s.now c.args.name.now c.args.at c.if-at-s.true); inside = tt }

-- the newline that was found is the first of what is left
found : (c : After-find) → c.find.result ≡ first_of (is newline) (drop c.args.at c.args.s.now)
found c = let s = c.args.s.now in
    let at = c.args.at in
    c.find.ensures ∙ ap (first_of (is newline)) (take_all (length s - at) (drop at s) (simp length-drop (omega arith)))

pub overflow_add-end : goal.overflow_add-end
overflow_add-end c = omega (arith, found c, first_of_le (is newline) (drop c.args.at c.args.s.now), length-drop c.args.at c.args.s.now)

pub returns-then-end-s : goal.returns-then-end-s
returns-then-end-s c =
    let f = found (goal.at.returns-then-end-s c).After-find in
    record { result_value = sym (no_line c.args.s.now c.args.name.now c.args.at _ f c.if-end-s.true); inside = tt }

pub returns-then-not-starts_with : goal.returns-then-not-starts_with
returns-then-not-starts_with c =
    let f = found (goal.at.returns-then-not-starts_with c).After-find in
    let line = take (c.args.at + c.find.result - c.args.at) (drop c.args.at c.args.s.now) in
    let r = rw (← c.starts_with.ensures.value, c.if-not-starts_with.true) at (after_pointwise c.args.name.now line) in
    record { result_value = sym (other_name c.args.s.now c.args.name.now c.args.at _ f (omega arith) r); inside = tt }

pub returns : goal.returns
returns c =
    let f = found (goal.at.returns c).After-find in
    let line = take (c.args.at + c.find.result - c.args.at) (drop c.args.at c.args.s.now) in
    let r = rw (← c.starts_with.ensures.value, c.if-not-starts_with.false) at (after_pointwise c.args.name.now line) in
    let n = name_fits c.args.s.now c.args.name.now c.args.at _ f (omega arith) r in
    record {
      result_value = sym (the_value c.args.s.now c.args.name.now c.args.at _ f (omega arith) r);
      inside = (omega arith, omega arith, omega arith);
    }
