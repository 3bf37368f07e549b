-- `read` goes through the stages of the definition; a size that was judged makes room in the buffers.
use borrow.Author.Rules.{rules}
use native.Mathlib.Nat.{mul_comm}
use native.Mathlib.Omega.{arith}
use mathlib.Core.Path.{◌≡◌, refl, sym, ◌∙◌}
use Prim.Native.Nat.{ℕ, ◌*◌, ◌≤◌}
use lib.ListN.{length}
use lib.Seq.{take_at, length-take-le}
use Rattle.survey_text.specs.Reading.{max_plate, reading}
use Rattle.survey_text.proofs.Heads.{size_accepted}
use Rattle.survey_text.proofs.reading.read.Goals as goal
use Rattle.survey_text.proofs.reading.read.Goals.{In_ok-setting}

-- the pixels, for which there is room
abbrev pixels : In_ok-setting → ℕ
pixels g = g.in_ok-width.width * g.in_ok-width.height

small : (g : In_ok-setting) → pixels g ≤ max_plate
small g = (size_accepted _ _ g.in_ok-width.ensures).small

readings_fit : (g : In_ok-setting) → pixels g ≤ length g.args.readings.now
readings_fit g =
    let many : length g.args.readings.now ≡ 512 = search rules in omega (arith, small g, many)

words_fit : (g : In_ok-setting) → pixels g ≤ length g.args.words.now
words_fit g =
    let many : length g.args.words.now ≡ 512 = search rules in omega (arith, small g, many)

pub overflow_mul-n : goal.overflow_mul-n
overflow_mul-n c = record { fits = omega (arith, small (goal.at.overflow_mul-n c).In_ok-setting) }

pub slice_bounds-plate_lines-end : goal.slice_bounds-plate_lines-end
slice_bounds-plate_lines-end c = small (goal.at.slice_bounds-plate_lines-end c).In_ok-setting

pub slice_bounds-plate_lines-end-2 : goal.slice_bounds-plate_lines-end-2
slice_bounds-plate_lines-end-2 c = sym (length-take-le _ _ (readings_fit (goal.at.slice_bounds-plate_lines-end-2 c).In_ok-setting))

pub slice_bounds-plate_lines-end-3 : goal.slice_bounds-plate_lines-end-3
slice_bounds-plate_lines-end-3 c = small (goal.at.slice_bounds-plate_lines-end-3 c).In_ok-setting

pub slice_bounds-plate_lines-end-4 : goal.slice_bounds-plate_lines-end-4
slice_bounds-plate_lines-end-4 c = sym (length-take-le _ _ (words_fit (goal.at.slice_bounds-plate_lines-end-4 c).In_ok-setting))

pub plate_lines-requires : goal.plate_lines-requires
plate_lines-requires c =
    let g = (goal.at.plate_lines-requires c).In_ok-setting in
    let m = mul_comm g.in_ok-width.width g.in_ok-width.height in
    record { readings_len = length-take-le _ _ (readings_fit g) ∙ m; words_len = length-take-le _ _ (words_fit g) ∙ m }

pub returns : goal.returns
unfolding reading
returns c =
    let g = (goal.at.returns c).In_ok-setting in
    let l = c.plate_lines.new in
    let k = c.plate_lines.auto in
    rw (take_at l.readings _ (pixels g) (k.readings ∙ length-take-le _ _ (readings_fit g)), take_at l.words _ (pixels g) (k.words ∙ length-take-le _ _ (words_fit g)))
    (rw (← c.in_ok-c.ensures, ← c.in_ok-edition.ensures, ← c.in_ok-width.ensures, ← c.in_ok-setting.ensures, ← c.in_ok-plate_lines.ensures) refl)
