-- The rows of keys. A row begins where the rows before it end, so that its number and the pixel are the two digits of a key's place; and what is known
-- of a key and of the level that is read for it.
use Prim.Native.Nat.{ℕ, ◌+◌, ◌*◌, ◌/◌, ◌%◌, ◌≤◌, ◌<◌}
use mathlib.Core.Path.{◌≡◌, ap, subst, ◌∙◌}
use mathlib.Core.Bool.{Bool}
use mathlib.Core.List.{List}
use mathlib.Core.Logic.{inl, inr}
use native.Mathlib.Nat.{add-mul}
use native.Mathlib.Omega.{arith}
use lib.Arith.{digits_div, digits_mod}
use lib.ListN.{length, get_or}
use lib.IntN.{ℤ, pos}
use lib.Signed.{mag}
use Rattle.basics.proofs.Numbers.{le_or_lt, rows_fit}
use Rattle.basics.proofs.Lists.{any_default}
use Rattle.plate.specs.Levels.{lowest}
use Rattle.plate.specs.Opening.{level_at}
use Rattle.frames.specs.Keys.{key_by}
use Rattle.frames.specs.Frames.{place_in}
use Rattle.frames.specs.declared.frame.Frame.{Frame}
use Rattle.directions.specs.Numbers.{KeptOn, line_kept, place_kept, keys_by, SmallKept}

-- ---- the place of a key

-- a row ends within all rows
pub row_ends : (row n w at : ℕ) → row < n → at ≡ row * w → at + w ≤ n * w
row_ends row n w at h e = omega (arith, rows_fit row 1 n w (omega arith))

-- the next row begins there
pub next_row : (row w : ℕ) → row * w + w ≡ (row + 1) * w
next_row row w = omega (arith, add-mul row 1 w)

-- after all rows
pub last_row : (row n w at : ℕ) → at ≡ row * w → row ≤ n → n ≤ row → at ≡ n * w
last_row row n w at e h k = e ∙ ap (λ (i : ℕ). i * w) (let same : row ≡ n = omega arith in same)

-- each of its pixels lies within all rows
pub pixel_within : (row n w at x size : ℕ) → row < n → at ≡ row * w → n * w ≤ size → x < w → at + x < size
pixel_within row n w at x size h e l k = omega (arith, row_ends row n w at h e)

module _ (r : Frame) (ranked : Bool) (row x at : ℕ) (h : x < r.across) (is_at : at ≡ row * r.across) where
  pub place_kept_lem : place_kept r ranked (at + x) ≡ place_in r (line_kept r ranked row x) x
  unfolding place_kept
  place_kept_lem =
      let e : at + x ≡ row * r.across + x = omega arith in
      let row_is : (at + x) / r.across ≡ row = ap (λ (n : ℕ). n / r.across) e ∙ digits_div row h in
      let pixel-is : (at + x) % r.across ≡ x = ap (λ (n : ℕ). n % r.across) e ∙ digits_mod row h in
      rw (row_is, pixel-is)

  -- the place that the code finds
  pub place_found : (line p : ℕ) → line ≡ line_kept r ranked row x → p ≡ place_in r line x → p ≡ place_kept r ranked (at + x)
  place_found line p is_line is_place = rw (place_kept_lem, is_place, is_line)

-- the key that is made of what is read there
pub key_found : (r : Frame) (ranked : Bool) (q mode : ℕ) (plate : List ℤ) (p v : ℕ) → p ≡ place_kept r ranked q →
    v ≡ key_by mode (level_at plate p) → v ≡ keys_by mode plate (place_kept r ranked q)
unfolding keys_by
key_found r ranked q mode plate p v is_place e = e ∙ ap (λ (n : ℕ). key_by mode (level_at plate n)) is_place

-- it lies on the plate
pub place_on : (r : Frame) (ranked : Bool) (line x p size : ℕ) → KeptOn r ranked → line < r.lines → x < r.across → p ≡ place_in r line x →
    size ≡ r.lines * r.across → p < size
place_on r ranked line x p size k h l is_place e = omega (arith, k.lies line x h l)

-- ---- the levels that are read

module _ (plate : List ℤ) (r : Frame) (ranked : Bool) where
  -- one more, which was read at place p
  pub small_more :
      (lo hi n p : ℕ) → SmallKept plate r ranked lo hi → p ≡ place_kept r ranked hi → mag (get_or plate p (pos 0)) < 32768 → p < length plate → n ≡ hi + 1 →
      SmallKept plate r ranked lo n
  small_more lo hi n p s e small on is =
      record {
        size = λ q a b. elim (le_or_lt hi q) [
          | inl l ↦ subst (λ (i : ℕ). mag (level_at plate i) < 32768) (e ∙ ap (place_kept r ranked) (let same : hi ≡ q = omega arith in same))
              (subst (λ (v : ℤ). mag v < 32768) (any_default plate p (pos 0) lowest on) small)
          | inr l ↦ s.size q a l
        ];
      }
