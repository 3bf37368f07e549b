-- Levels that rise: to nothing, and twice in the same places. All of it is said of keys, of which the higher one is a maximum.
use Prim.Native.Nat.{ℕ, ◌≤◌, ◌<◌, max}
use mathlib.Core.Path.{◌≡◌, refl, ◌∙◌}
use mathlib.Core.List.{List}
use native.Mathlib.Omega.{arith}
use lib.IntN.{ℤ}
use Rattle.directions.specs.Gathering.{Raised}

-- a direction that adds nothing
pub raised_to_nothing : (f : ℕ → ℕ) (old : List ℤ) (lo hi : ℕ) → ((x : ℕ) → lo ≤ x → x < hi → f x ≡ 0) → Raised f old old lo hi
raised_to_nothing f old lo hi none =
    record { inside = λ x a b. omega (arith, none x a b); under = λ x l. refl; over = λ x l. refl; len = refl }

-- twice in the same places: risen to the higher of the two
pub raised_twice : (f g h : ℕ → ℕ) (old mid new : List ℤ) (lo hi : ℕ) → Raised f old mid lo hi → Raised g mid new lo hi →
    ((x : ℕ) → lo ≤ x → x < hi → h x ≡ max (g x) (f x)) → Raised h old new lo hi
raised_twice f g h old mid new lo hi a b e =
    record {
      inside = λ x l m. omega (arith, a.inside x l m, b.inside x l m, e x l m);
      under = λ x l. b.under x l ∙ a.under x l;
      over = λ x l. b.over x l ∙ a.over x l;
      len = b.len ∙ a.len;
    }

-- the same levels by another rule
pub raised_by : (f g : ℕ → ℕ) (old new : List ℤ) (lo hi : ℕ) → Raised f old new lo hi → ((x : ℕ) → lo ≤ x → x < hi → g x ≡ f x) → Raised g old new lo hi
raised_by f g old new lo hi r e =
    record { inside = λ x a b. omega (arith, r.inside x a b, e x a b); under = r.under; over = r.over; len = r.len }
