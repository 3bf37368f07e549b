-- `request` hands what was read to `fill`: a text that was read has a small plate, so that the lent parts are the readings and the words.
use native.Mathlib.Omega.{arith}
use mathlib.Core.Path.{◌≡◌, sym}
use Prim.Native.Nat.{◌*◌, ◌≤◌}
use lib.ListN.{length, take}
use lib.Seq.{length-take-le}
use Rattle.std.proofs.lemmas.Result.{err_from_is_err_and}
use Rattle.plate.specs.Refusals.{Verdict.accepted}
use Rattle.survey_text.specs.Reading.{max_plate, reading}
use Rattle.survey_text.specs.Within.{with_lists}
use Rattle.survey_text.proofs.Heads.{reading_sized}
use Rattle.survey_text.proofs.Requests.{unread, read}
use Rattle.survey_text.proofs.asking.request.Goals as goal
use Rattle.survey_text.proofs.asking.request.Goals.{In_ok-head}

-- the text was read
was_read : (c : In_ok-head) → let h = c.in_ok-head.head in
    let n = h.width * h.height in
    accepted (with_lists h (take n c.read.new.readings) (take n c.read.new.words)) ≡ reading c.args.s.now
was_read c = c.in_ok-head.ensures

-- its plate is small
small : (c : In_ok-head) → c.in_ok-head.head.width * c.in_ok-head.head.height ≤ max_plate
small c = (reading_sized _ _ (was_read c)).small

-- and fits the three buffers
readings_fit : (c : In_ok-head) → c.in_ok-head.head.width * c.in_ok-head.head.height ≤ length c.read.new.readings
readings_fit c = omega (arith, small c)

words_fit : (c : In_ok-head) → c.in_ok-head.head.width * c.in_ok-head.head.height ≤ length c.read.new.words
words_fit c = omega (arith, small c)

pub overflow_mul-n : goal.overflow_mul-n
overflow_mul-n c = record { fits = omega (arith, small (goal.at.overflow_mul-n c).In_ok-head) }

pub slice_bounds-readings-end : goal.slice_bounds-readings-end
slice_bounds-readings-end c = readings_fit (goal.at.slice_bounds-readings-end c).In_ok-head

pub slice_bounds-fill-end : goal.slice_bounds-fill-end
slice_bounds-fill-end c = sym (length-take-le _ _ (readings_fit (goal.at.slice_bounds-fill-end c).In_ok-head))

pub slice_bounds-words-end : goal.slice_bounds-words-end
slice_bounds-words-end c = words_fit (goal.at.slice_bounds-words-end c).In_ok-head

pub slice_bounds-fill-end-2 : goal.slice_bounds-fill-end-2
slice_bounds-fill-end-2 c = sym (length-take-le _ _ (words_fit (goal.at.slice_bounds-fill-end-2 c).In_ok-head))

pub fill-requires : goal.fill-requires
fill-requires c = small (goal.at.fill-requires c).In_ok-head

pub returns-in_err-head : goal.returns-in_err-head
returns-in_err-head c =
    let p = err_from_is_err_and c.from_residual.result c.from_residual.ensures.1 in
    let e = unread _ _ _ c.in_err-head.ensures in
    record { result_after = rw (p.1, p.2, e); levels_after = rw e }

pub returns : goal.returns
returns c =
    let e = read _ _ (was_read (goal.at.returns c).In_ok-head) in
    record { result_after = rw e c.fill.ensures.result_after; levels_after = rw e c.fill.ensures.levels_after }
