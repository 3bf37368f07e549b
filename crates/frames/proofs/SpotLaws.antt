-- The spots of a frame are those of the plate. Lines are rows or columns, each counted from either end, and a number counted from the last one is
-- turned; so a spot of the frame lies at the turned coordinates of the plate, and both are off at once.
use Prim.Native.Nat.{ℕ, ◌+◌, ◌-◌, ◌*◌, ◌≤◌, ◌<◌}
use mathlib.Core.Path.{◌≡◌, refl, sym, ap, ◌∙◌}
use mathlib.Core.Bool.{Bool, true, false}
use mathlib.Core.Logic.{◌⊎◌, inl, inr, ⊎_elim}
use native.Mathlib.Omega.{arith}
use borrow.Author.Tests.{le-leb, lt-leb}
use Rattle.basics.proofs.Numbers.{le_or_lt}
use Rattle.frames.proofs.PlateSpots.{plate_spot, gate_zero, spot_on, spot_above, spot_below, spot_left, spot_right}
use Rattle.frames.specs.Frames.{counted_from, place_in, spot}
use Rattle.frames.specs.declared.frame.Frame.{Frame}

-- ---- numbers turned

pub turned_last : (b : Bool) (n i : ℕ) → b ≡ true → counted_from b n i ≡ n - 1 - i
unfolding counted_from
turned_last b n i e = rw e

pub turned_first : (b : Bool) (n i : ℕ) → b ≡ false → counted_from b n i ≡ i
unfolding counted_from
turned_first b n i e = rw e

pub turned_below : (b : Bool) (n i : ℕ) → i < n → counted_from b n i < n
unfolding counted_from
turned_below true n i h = omega arith
turned_below false n i h = h

pub turned_twice : (b : Bool) (n i : ℕ) → i < n → counted_from b n (counted_from b n i) ≡ i
unfolding counted_from
turned_twice true n i h = omega arith
turned_twice false n i h = refl

-- a change by d − 1, in coordinates plus one
pub turned_step : (b : Bool) (n i d : ℕ) → i < n → d ≤ 2 → counted_from b n i + d ≡ counted_from b (n + 2) (i + counted_from b 3 d)
unfolding counted_from
turned_step true n i d h k = omega arith
turned_step false n i d h k = refl

-- a coordinate plus one is on a side of n pixels, or off it
abbrev On : ℕ → ℕ → Type 0
On n I = (1 ≤ I) × (I ≤ n)

abbrev Off : ℕ → ℕ → Type 0
Off n I = (I < 1) ⊎ (n < I)

on_or_off : (n I : ℕ) → On n I ⊎ Off n I
on_or_off n I = ⊎_elim (λ a. ⊎_elim (λ b. inl (a, b)) (λ b. inr (inr b)) (le_or_lt I n)) (λ a. inr (inl a)) (le_or_lt 1 I)

turned_on : (b : Bool) (n I : ℕ) → On n I → On n (counted_from b (n + 2) I)
unfolding counted_from
turned_on true n I h = omega arith
turned_on false n I h = h

turned_off : (b : Bool) (n I : ℕ) → I ≤ n + 1 → Off n I → Off n (counted_from b (n + 2) I)
unfolding counted_from
turned_off true n I l h = ⊎_elim (λ a. inr (omega arith)) (λ a. inl (omega arith)) h
turned_off false n I l h = h

turned_less : (b : Bool) (n I : ℕ) → On n I → counted_from b (n + 2) I - 1 ≡ counted_from b n (I - 1)
unfolding counted_from
turned_less true n I h = omega arith
turned_less false n I h = refl

-- ---- spots of any frame, and of the plate

module _ (f : ℕ → ℕ) (r : Frame) (I J : ℕ) where
  frame_on : On r.lines I → On r.across J → spot f r I J ≡ f (place_in r (I - 1) (J - 1))
  unfolding spot
  frame_on a b = simp (le-leb _ _ a.0, le-leb _ _ a.1, le-leb _ _ b.0, le-leb _ _ b.1)

  frame_off : Off r.lines I ⊎ Off r.across J → spot f r I J ≡ 0
  unfolding spot
  frame_off (inl (inl a)) = simp (lt-leb _ _ a)
  frame_off (inl (inr a)) = simp (lt-leb _ _ a, gate_zero)
  frame_off (inr (inl a)) = simp (lt-leb _ _ a, gate_zero)
  frame_off (inr (inr a)) = simp (lt-leb _ _ a, gate_zero)

plate_off : (f : ℕ → ℕ) (W H Y X : ℕ) → Off H Y ⊎ Off W X → plate_spot f W H Y X ≡ 0
plate_off f W H Y X (inl (inl a)) = spot_above f W H Y X a
plate_off f W H Y X (inl (inr a)) = spot_below f W H Y X a
plate_off f W H Y X (inr (inl a)) = spot_left f W H Y X a
plate_off f W H Y X (inr (inr a)) = spot_right f W H Y X a

-- ---- lines that are rows, and lines that are columns

module _ (W H : ℕ) (flipped mirrored diagonal : Bool) where
  abbrev pub rows_frame : Frame
  rows_frame = record { lines = H; across = W; leap = W; hop = 1; flipped = flipped; mirrored = mirrored; diagonal = diagonal }

  abbrev pub columns_frame : Frame
  columns_frame = record { lines = W; across = H; leap = 1; hop = W; flipped = flipped; mirrored = mirrored; diagonal = diagonal }

  pub rows_place : (i x : ℕ) → place_in rows_frame i x ≡ counted_from flipped H i * W + counted_from mirrored W x
  unfolding place_in
  rows_place i x = omega arith

  pub columns_place : (i x : ℕ) → place_in columns_frame i x ≡ counted_from mirrored H x * W + counted_from flipped W i
  unfolding place_in
  columns_place i x = omega arith

  module _ (f : ℕ → ℕ) (I J : ℕ) where
    pub rows_spot :
        I ≤ H + 1 → J ≤ W + 1 → plate_spot f W H (counted_from flipped (H + 2) I) (counted_from mirrored (W + 2) J) ≡ spot f rows_frame I J
    rows_spot p q =
        let Y = counted_from flipped (H + 2) I in
        let X = counted_from mirrored (W + 2) J in
        let off : Off H I ⊎ Off W J → plate_spot f W H Y X ≡ spot f rows_frame I J =
        λ o.
        plate_off f W H Y X (⊎_elim (λ a. inl (turned_off flipped H I p a)) (λ a. inr (turned_off mirrored W J q a)) o)
        ∙ sym (frame_off f rows_frame I J o) in
        let on : On H I → On W J → plate_spot f W H Y X ≡ spot f rows_frame I J =
        λ a b.
        let a' = turned_on flipped H I a in
        let b' = turned_on mirrored W J b in
        let e : (Y - 1) * W + (X - 1) ≡ place_in rows_frame (I - 1) (J - 1) =
        omega (arith, ap (λ (k : ℕ). k * W) (turned_less flipped H I a), turned_less mirrored W J b, rows_place (I - 1) (J - 1)) in
        spot_on f W H Y X a'.0 a'.1 b'.0 b'.1 ∙ ap f e ∙ sym (frame_on f rows_frame I J a b) in
        ⊎_elim (λ a. ⊎_elim (λ b. on a b) (λ b. off (inr b)) (on_or_off W J)) (λ a. off (inl a)) (on_or_off H I)

    pub columns_spot :
        I ≤ W + 1 → J ≤ H + 1 → plate_spot f W H (counted_from mirrored (H + 2) J) (counted_from flipped (W + 2) I) ≡ spot f columns_frame I J
    columns_spot p q =
        let Y = counted_from mirrored (H + 2) J in
        let X = counted_from flipped (W + 2) I in
        let off : Off W I ⊎ Off H J → plate_spot f W H Y X ≡ spot f columns_frame I J =
        λ o.
        plate_off f W H Y X (⊎_elim (λ a. inr (turned_off flipped W I p a)) (λ a. inl (turned_off mirrored H J q a)) o)
        ∙ sym (frame_off f columns_frame I J o) in
        let on : On W I → On H J → plate_spot f W H Y X ≡ spot f columns_frame I J =
        λ a b.
        let a' = turned_on flipped W I a in
        let b' = turned_on mirrored H J b in
        let e : (Y - 1) * W + (X - 1) ≡ place_in columns_frame (I - 1) (J - 1) =
        omega (arith, ap (λ (k : ℕ). k * W) (turned_less mirrored H J b), turned_less flipped W I a, columns_place (I - 1) (J - 1)) in
        spot_on f W H Y X b'.0 b'.1 a'.0 a'.1 ∙ ap f e ∙ sym (frame_on f columns_frame I J a b) in
        ⊎_elim (λ a. ⊎_elim (λ b. on a b) (λ b. off (inr b)) (on_or_off H J)) (λ a. off (inl a)) (on_or_off W I)
