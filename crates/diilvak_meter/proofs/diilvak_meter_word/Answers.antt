-- `diilvak_meter_word` hands over what the meter's call answers of the figures that are meant.
use Prim.Native.Nat.{ℕ}
use mathlib.Core.Path.{ap, ◌∙◌}
use Rattle.plate.specs.Refusals.{Verdict}
use Rattle.plate.specs.Telling.{number_of, value_after}
use Rattle.diilvak_meter.proofs.diilvak_meter_word.Goals as goal

pub returns-in-Ok : goal.returns-in-Ok
returns-in-Ok c =
    let answer = rw c.from.ensures at c.in-Ok.ensures in
    record { value = ap number_of answer; word_after = ap (λ (v : Verdict ℕ). value_after v c.args.word.now) answer }

pub returns-in-Err : goal.returns-in-Err
returns-in-Err c =
    let answer = rw c.from.ensures at c.in-Err.ensures in
    record { value = c.number.ensures ∙ ap number_of answer; word_after = ap (λ (v : Verdict ℕ). value_after v c.args.word.now) answer }
