-- Laws of rows that are read line by line: those that were read stand at the front of a buffer, and with the rows of the lines that follow they are all.
use Prim.Native.Nat.{ℕ, suc, ◌+◌, ◌-◌, ◌*◌, ◌≤◌, ◌<◌}
use mathlib.Core.Path.{◌≡◌, refl, ap, sym, ◌∙◌}
use mathlib.Core.List.{List, [], ◌++◌, append_assoc, append-nil}
use native.Mathlib.Nat.{mul-le-mul_right}
use native.Mathlib.Omega.{arith}
use lib.ListN.{length, take, drop, length-drop, length-append}
use lib.Seq.{take_all, take_at, length-take-le}
use borrow.Author.Tests.{lt-ltb, le-ltb}
use borrow.Rule.Slice.PartMut.{put_mid}
use Rattle.plate.specs.Refusals.{Verdict, Verdict.accepted, Verdict.refused, judged}
use Rattle.text_lines.specs.Format.{list}
use Rattle.survey_text.specs.Reading.{◌>>=◌, Rest, next, at_end, row_lines}

-- these numbers, and then those of what follows
abbrev pub onward : List ℕ → Verdict (List ℕ × Rest) → Verdict (List ℕ × Rest)
onward xs v = v >>= λ w. accepted (xs ++ w.0, w.1)

onward_more : (xs row : List ℕ) (v : Verdict (List ℕ × Rest)) → onward xs (onward row v) ≡ onward (xs ++ row) v
onward_more xs row (accepted v) = ap (λ (ys : List ℕ). accepted (ys, v.1)) (sym (append_assoc xs row v.0))
onward_more xs row (refused n p) = refl

none_yet : (v : Verdict (List ℕ × Rest)) → v ≡ onward [] v
none_yet (accepted x) = refl
none_yet (refused n p) = refl

-- a row more has room
pub row_fits : (W H i : ℕ) → i < H → i * W + W ≤ H * W
row_fits W H i h = let l : i + 1 ≤ H = omega arith in omega (arith, mul-le-mul_right W l)

-- i rows were read, and `here` is left
abbrev pub Rows : List ℕ → ℕ → ℕ → List ℕ → Rest → Rest → ℕ → Type 0
Rows name W H out l here i = row_lines name W H l ≡ onward (take (i * W) out) (row_lines name W (H - i) here)

pub rows_none : (name : List ℕ) (W H : ℕ) (out : List ℕ) (l : Rest) → Rows name W H out l l 0
rows_none name W H out l =
    let e : H - 0 ≡ H = omega arith in
    let z : 0 * W ≡ 0 = omega arith in
    rw (e, z) (none_yet (row_lines name W H l))

module _ (name : List ℕ) (W H : ℕ) (out : List ℕ) (l here : Rest) (i : ℕ) (g : Rows name W H out l here i) where
  -- all rows were read
  pub rows_end : i ≡ H → length out ≡ H * W → accepted (out, here) ≡ row_lines name W H l
  unfolding row_lines
  rows_end e long =
      let z : H - i ≡ 0 = omega arith in
      let m : length out ≡ i * W = long ∙ ap (λ (n : ℕ). n * W) (sym e) in
      sym (g ∙ rw (z, take_all (i * W) out (omega arith), append-nil out))

  module _ (h : i < H) where
    asked : H - i ≡ suc (H - (i + 1))
    asked = omega arith

    -- the next line refuses
    pub rows_refused : (n p : ℕ) → refused n p ≡ next name (list W) here → refused n p ≡ row_lines name W H l
    unfolding row_lines
    rows_refused n p e = sym (g ∙ rw (asked, ← e))

    module _ (long : length out ≡ H * W) where
      pub row_room : i * W + W ≤ length out
      row_room = omega (arith, long, row_fits W H i h)

      -- the part that is lent has room for a row
      pub row_length : length (take (i * W + W - i * W) (drop (i * W) out)) ≡ W
      row_length = let e : i * W + W - i * W ≡ W = omega arith in
          rw e (length-take-le W (drop (i * W) out) (simp length-drop (omega (arith, row_room))))

      -- it has a row
      pub rows_more : (row : List ℕ) (there : Rest) → length row ≡ W → accepted (row, there) ≡ next name (list W) here
          → Rows name W H (put_mid (i * W) (i * W + W - i * W) out row) l there (i + 1)
      unfolding row_lines
      rows_more row there k m =
          let front : length (take (i * W) out ++ row) ≡ i * W + W =
          length-append (take (i * W) out) row ∙ (let t = length-take-le (i * W) out (omega (arith, row_room)) in omega arith) in
          let next_place : (i + 1) * W ≡ i * W + W = omega arith in
          let t : take ((i + 1) * W) (put_mid (i * W) (i * W + W - i * W) out row) ≡ take (i * W) out ++ row =
          rw next_place (ap (take (i * W + W)) (sym (append_assoc (take (i * W) out) row _)) ∙ take_at (take (i * W) out ++ row) _ (i * W + W) front) in
          g ∙ rw (asked, ← m, t) (onward_more (take (i * W) out) row (row_lines name W (H - (i + 1)) there))

-- ---- the end of the text

pub line_left : (l : Rest) → 0 < length l.bytes → at_end l ≡ refused 13 l.line
unfolding at_end judged
line_left l h = rw (lt-ltb 0 (length l.bytes) h)

pub text_ended : (l : Rest) → length l.bytes ≤ 0 → at_end l ≡ accepted tt
unfolding at_end judged
text_ended l h = rw (le-ltb 0 (length l.bytes) h)
