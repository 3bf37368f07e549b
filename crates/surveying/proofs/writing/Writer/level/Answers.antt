-- `level` writes the minus sign where the level is below zero, and then how far it lies from zero.
use mathlib.Core.Path.{◌≡◌, ap, ◌∙◌}
use mathlib.Core.List.{[], ◌∷◌, ◌++◌}
use mathlib.Core.Bool.{true, false}
use lib.IntN.{pos, nat_abs}
use lib.Signed.{lt_z}
use mir.Syntax.{w16}
use mir.Val.{to_z, of_z}
use mir.ValLaws.{to_z-of_z}
use Rattle.text_lines.specs.Bytes.{minus}
use Rattle.survey_text.specs.Printing.{decimal}
use Rattle.surveying.specs.Buffers.{Room}
use Rattle.surveying.proofs.SignedDecimals.{below_zero, not_below_zero}
use Rattle.surveying.proofs.Written.{room_first, room_then, written_then}
use Rattle.surveying.proofs.writing.Writer.level.Goals as goal
use Rattle.surveying.proofs.writing.Writer.level.Goals.{After-from, Start, then-level-lt0, else-level-lt0}

-- the level is below zero, and there is room for the sign and the number
below : (b : Start) → lt_z (to_z w16 (of_z w16 b.args.level)) (pos 0) ≡ true → lt_z b.args.level (pos 0) ≡ true
below b e = rw (to_z-of_z w16 b.args.level b.ranges.level) at e

room : (b : Start) → lt_z b.args.level (pos 0) ≡ true → Room ((minus ∷ []) ++ decimal (nat_abs b.args.level)) b.args.self.now
room b e = rw (below_zero b.args.level e) at b.requires

-- it is not
above : (b : Start) → lt_z (to_z w16 (of_z w16 b.args.level)) (pos 0) ≡ false → lt_z b.args.level (pos 0) ≡ false
above b e = rw (to_z-of_z w16 b.args.level b.ranges.level) at e

-- how far it lies from zero
far : (c : After-from) → c.from.result ≡ nat_abs c.args.level
far c = c.from.ensures ∙ c.unsigned_abs.ensures.value ∙ ap nat_abs (to_z-of_z w16 c.args.level c.ranges.level)

pub put-requires : goal.put-requires
put-requires c =
    let b = (goal.at.put-requires c).Start in
    room_first (minus ∷ []) (decimal (nat_abs c.args.level)) (room b (below b c.if-level-lt0.true))

pub number-requires : goal.number-requires
number-requires c =
    let b = (goal.at.number-requires c).Start in
    rw (far (goal.at.number-requires c).After-from)
    (elim c.if-level-lt0.branch [
      | then-level-lt0 w ↦ rw w.self-is (room_then (minus ∷ []) (decimal (nat_abs c.args.level)) (room b (below b w.if-level-lt0.true)) w.put.ensures)
      | else-level-lt0 w ↦ rw w.self-is (rw (not_below_zero c.args.level (above b w.if-level-lt0.false)) at c.requires)
    ])

pub returns : goal.returns
returns c =
    let b = (goal.at.returns c).Start in
    let n = rw (far (goal.at.returns c).After-from) at c.number.ensures in
    elim c.if-level-lt0.branch [
      | then-level-lt0 w ↦
          rw (below_zero c.args.level (below b w.if-level-lt0.true))
          (written_then (minus ∷ []) (decimal (nat_abs c.args.level)) (room b (below b w.if-level-lt0.true)) w.put.ensures (rw w.self-is at n))
      | else-level-lt0 w ↦ rw (not_below_zero c.args.level (above b w.if-level-lt0.false)) (rw w.self-is at n)
    ]
