-- A row of a state is a row of spots. A pixel of the row has the number that its spot has, and where the row ends the spots are off the frame, or the
-- pixels there have no number. Shown of any row, then of a line of the frame and of a rank in an area.
use Prim.Native.Nat.{ℕ, zero, suc, ◌+◌, ◌-◌, ◌≤◌, ◌<◌, min, max}
use mathlib.Core.Path.{◌≡◌, refl, sym, ap, ◌∙◌}
use mathlib.Core.Bool.{Bool, true, false}
use mathlib.Core.Logic.{◌⊎◌, inl, inr, ⊎_elim}
use native.Mathlib.Omega.{arith}
use borrow.Author.Tests.{le-leb, lt-leb}
use Rattle.basics.proofs.Numbers.{le_or_lt}
use Rattle.frames.specs.Frames.{place_in, spot}
use Rattle.frames.specs.declared.frame.Frame.{Frame}
use Rattle.frames.proofs.FrameSpots.{spot_on, spot_before, spot_after, spot_left, spot_right}
use Rattle.states.specs.Rows.{gate, in_row}
use Rattle.directions.specs.Plans.{AreaOf}
use Rattle.directions.specs.declared.plan.Area.{Area}

-- ---- a pixel lies in the area, or beside it

pub record InArea (a : Area) (i x : ℕ) : Type 0 where
  pub under_top : a.top ≤ i
  pub over_bottom : i < a.bottom
  pub past_left : a.left ≤ x
  pub before_right : x < a.right

abbrev pub Beside : Area → ℕ → ℕ → Type 0
Beside a i x = (i < a.top) ⊎ ((a.bottom ≤ i) ⊎ ((x < a.left) ⊎ (a.right ≤ x)))

pub in_or_beside : (a : Area) (i x : ℕ) → InArea a i x ⊎ Beside a i x
in_or_beside a i x =
    ⊎_elim
    (λ t. ⊎_elim
    (λ b. ⊎_elim
    (λ l. ⊎_elim
    (λ e. inl (record { under_top = t; over_bottom = b; past_left = l; before_right = e }))
    (λ e. inr (inr (inr (inr (omega arith)))))
    (le_or_lt (suc x) a.right))
    (λ l. inr (inr (inr (inl l))))
    (le_or_lt a.left x))
    (λ b. inr (inr (inl (omega arith))))
    (le_or_lt (suc i) a.bottom))
    (λ t. inr (inl t))
    (le_or_lt a.top i)

-- ---- numbers of a row, and none

closed : (b : Bool) → gate b 0 ≡ 0
closed true = refl
closed false = refl

module _ (lo hi : ℕ) (h : ℕ → ℕ) where
  row_on : (x : ℕ) → lo ≤ x → x < hi → in_row lo hi h (suc x) ≡ h x
  unfolding in_row
  row_on x a b =
      let e : suc x - 1 ≡ x = omega arith in
      let k : lo + 1 ≤ suc x = omega arith in
      rw (le-leb (lo + 1) (suc x) k, le-leb (suc x) hi b, e)

  row_under : (X : ℕ) → X ≤ lo → in_row lo hi h X ≡ 0
  unfolding in_row
  row_under X a = let k : X < lo + 1 = omega arith in rw (lt-leb (lo + 1) X k)

  row_over : (X : ℕ) → hi < X → in_row lo hi h X ≡ 0
  unfolding in_row
  row_over X a = simp (lt-leb X hi a, closed)

-- ---- a spot is 0 where no pixel of the frame has a number there

module _ (f : ℕ → ℕ) (r : Frame) where
  pub spot_zero :
      (Y X : ℕ) → ((i x : ℕ) → i < r.lines → x < r.across → Y ≡ suc i → X ≡ suc x → f (place_in r i x) ≡ 0) → spot f r Y X ≡ 0
  spot_zero zero X none = spot_before f r 0 X refl
  spot_zero (suc i) zero none = spot_left f r (suc i) 0 refl
  spot_zero (suc i) (suc x) none =
      ⊎_elim
      (λ k. ⊎_elim
      (λ l. spot_on f r i x k l ∙ none i x k l refl refl)
      (λ l. spot_right f r (suc i) (suc x) l)
      (le_or_lt (suc x) r.across))
      (λ k. spot_after f r (suc i) (suc x) k)
      (le_or_lt (suc i) r.lines)

-- ---- any row against the spots of a line

-- pixel x of a row is the pixel of line Y − 1
pub record SpotOf (h f : ℕ → ℕ) (r : Frame) (Y x : ℕ) : Type 0 where
  pub line : ℕ
  pub is_line : Y ≡ suc line
  pub on : line < r.lines
  pub column : x < r.across
  pub same : h x ≡ f (place_in r line x)

module _ (lo hi : ℕ) (h f : ℕ → ℕ) (r : Frame) (Y : ℕ) where
  found : (x : ℕ) → lo ≤ x → x < hi → SpotOf h f r Y x → in_row lo hi h (suc x) ≡ spot f r Y (suc x)
  found x a b s =
      row_on lo hi h x a b ∙ s.same ∙ sym (spot_on f r s.line x s.on s.column)
      ∙ sym (ap (λ (Z : ℕ). spot f r Z (suc x)) s.is_line)

  row_spots :
      (X : ℕ) → ((x : ℕ) → X ≡ suc x → lo ≤ x → x < hi → SpotOf h f r Y x) →
      ((i x : ℕ) → i < r.lines → x < r.across → Y ≡ suc i → X ≡ suc x → (x < lo) ⊎ (hi ≤ x) → f (place_in r i x) ≡ 0) →
      in_row lo hi h X ≡ spot f r Y X
  row_spots zero within beyond = row_under lo hi h 0 (omega arith) ∙ sym (spot_left f r Y 0 refl)
  row_spots (suc x) within beyond =
      ⊎_elim
      (λ a. ⊎_elim
      (λ b. found x a b (within x refl a b))
      (λ b. row_over lo hi h (suc x) b ∙ sym (spot_zero f r Y (suc x) (λ i z k l u v. beyond i z k l u v (inr (omega arith)))))
      (le_or_lt (suc x) hi))
      (λ a. row_under lo hi h (suc x) a ∙ sym (spot_zero f r Y (suc x) (λ i z k l u v. beyond i z k l u v (inl (omega arith)))))
      (le_or_lt lo x)

-- ---- a line of the frame

pub line_row :
    (h f : ℕ → ℕ) (r : Frame) (y Y X : ℕ) → y < r.lines → Y ≡ suc y → ((x : ℕ) → x < r.across → h x ≡ f (place_in r y x)) →
    in_row 0 r.across h X ≡ spot f r Y X
line_row h f r y Y X on is same =
    row_spots 0 r.across h f r Y X
    (λ x e a b. record { line = y; is_line = is; on = on; column = b; same = same x b })
    (λ i x k l u v c. ⊎_elim (λ (d : x < 0). absurd (omega arith)) (λ (d : r.across ≤ x). absurd (omega arith)) c)

-- ---- a rank: line and pixel make it up

module _ (h f : ℕ → ℕ) (r : Frame) (a : Area) (area : AreaOf r a) (rank Y X : ℕ) (sum : Y + X ≡ rank + 2) where
  abbrev lo : ℕ
  lo = max a.left (rank + 1 - a.bottom)

  abbrev hi : ℕ
  hi = min a.right (rank + 1 - a.top)

  rank_found : (x : ℕ) → X ≡ suc x → lo ≤ x → x < hi → h x ≡ f (place_in r (rank - x) x) → SpotOf h f r Y x
  rank_found x e c d s =
      record { line = rank - x; is_line = omega arith; on = omega (arith, area.low); column = omega (arith, area.narrow); same = s }

  rank_beside : (i x : ℕ) → Y ≡ suc i → X ≡ suc x → (x < lo) ⊎ (hi ≤ x) → Beside a i x
  rank_beside i x u v c =
      ⊎_elim
      (λ w. ⊎_elim
      (λ (d : x < lo). absurd (omega (arith, w.over_bottom, w.past_left)))
      (λ (d : hi ≤ x). absurd (omega (arith, w.under_top, w.before_right)))
      c)
      (λ b. b)
      (in_or_beside a i x)

  pub rank_row :
      ((x : ℕ) → lo ≤ x → x < hi → h x ≡ f (place_in r (rank - x) x)) →
      ((i x : ℕ) → i < r.lines → x < r.across → Beside a i x → f (place_in r i x) ≡ 0) → in_row lo hi h X ≡ spot f r Y X
  rank_row same beside =
      row_spots lo hi h f r Y X (λ x e c d. rank_found x e c d (same x c d)) (λ i x k l u v c. beside i x k l (rank_beside i x u v c))
