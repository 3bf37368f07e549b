-- A walk through x with few low pixels, by its two halves: l steps to x and the others from x on. The pixel x is in both halves, and where t ≤ g x
-- it is low in neither, so that the counts add up. The ends of the walk are those of the halves.
use Prim.Native.Nat.{ℕ, ◌+◌, ◌-◌, ◌≤◌}
use mathlib.Core.Path.{◌≡◌, ap, ◌∙◌}
use mathlib.Core.List.{List, [], ◌∷◌, tail, reverse_aux, Memᴰ}
use native.Mathlib.Omega.{arith}
use Rattle.theory.specs.Walks.{Walk, last_of}
use Rattle.theory.specs.BestWalks.{under, low_pixels, ended, best_walk}
use Rattle.basics.proofs.Lists.{reverse_aux_right}
use Rattle.theory.proofs.Walks.{walk_first, walk_starts, joined_starts, joined_ends}
use Rattle.theory.proofs.Cutting.{Cut, cut, join}
use Rattle.theory.proofs.LevelSets.{under_high, reach_good, good_reach}

-- some walk of m steps goes through x, has at most k pixels below t, and may start and end where it does
pub record Crossing (slack : ℕ) (next : ℕ → List ℕ) (g : ℕ → ℕ) (t m k x : ℕ) : Type 0 where
  pub start : ℕ
  pub pixels : List ℕ
  pub walk : Walk next m start pixels
  pub crosses : Memᴰ x pixels
  pub few : low_pixels g t pixels ≤ k
  pub starts : t ≤ ended slack (g start)
  pub ends : t ≤ ended slack (g (last_of pixels))

-- the same by numbers: l steps to x with i gaps, and the other steps from x on with the other gaps
pub record Halves (slack : ℕ) (next back : ℕ → List ℕ) (g : ℕ → ℕ) (t m k x : ℕ) : Type 0 where
  pub l : ℕ
  pub i : ℕ
  pub l≤m : l ≤ m
  pub i≤k : i ≤ k
  pub to_x : t ≤ best_walk slack back g l i x
  pub from_x : t ≤ best_walk slack next g (m - l) (k - i) x

module _ (g : ℕ → ℕ) (t : ℕ) where
  low_reverse_aux : (ps qs : List ℕ) → low_pixels g t (reverse_aux ps qs) ≡ low_pixels g t ps + low_pixels g t qs
  unfolding low_pixels
  low_reverse_aux [] qs = omega arith
  low_reverse_aux (p ∷ ps) qs = omega (arith, low_reverse_aux ps (p ∷ qs))

  low_first : {next : ℕ → List ℕ} {m p : ℕ} {ps : List ℕ} → Walk next m p ps → low_pixels g t ps ≡ under t (g p) + low_pixels g t (tail ps)
  unfolding low_pixels
  low_first w = ap (low_pixels g t) (walk_starts w)

  -- two halves that meet at x count x twice
  low_joined :
      {back : ℕ → List ℕ} {a x : ℕ} {came : List ℕ} (goes : List ℕ) → Walk back a x came →
      low_pixels g t (reverse_aux (tail came) goes) + under t (g x) ≡ low_pixels g t came + low_pixels g t goes
  low_joined {came = came} goes w = omega (arith, low_reverse_aux (tail came) goes, low_first w)

module _ (slack : ℕ) (next back : ℕ → List ℕ) (g : ℕ → ℕ) (t : ℕ) where
  module _ (turn : (p q : ℕ) → Memᴰ q (next p) → Memᴰ p (back q)) where
    cut_halves :
        {m k x p : ℕ} {ps : List ℕ} → t ≤ g x → low_pixels g t ps ≤ k → Walk next m p ps → t ≤ ended slack (g p) → t ≤ ended slack (g (last_of ps)) →
        Cut next back m x ps → Halves slack next back g t m k x
    cut_halves {m} {k} {x} {p} {ps} h few w starts ends c =
        let i : ℕ = low_pixels g t c.came in
        let e : c.after ≡ m - c.before = omega (arith, c.steps) in
        let n : low_pixels g t ps + under t (g x) ≡ i + low_pixels g t c.goes =
        ap (λ (qs : List ℕ). low_pixels g t qs + under t (g x)) c.pixels ∙ low_joined g t c.goes c.walk_back in
        let u : under t (g x) ≡ 0 = under_high t (g x) h in
        let first : p ≡ last_of c.came = joined_starts c.walk_back c.walk_on (rw c.pixels at w) in
        let last : last_of ps ≡ last_of c.goes = ap last_of c.pixels ∙ joined_ends c.walk_back c.walk_on in
        record {
          l = c.before;
          i = i;
          l≤m = omega (arith, c.steps);
          i≤k = omega arith;
          to_x = good_reach slack back g t c.before i x
              (record { pixels = c.came; walk = c.walk_back; few = omega arith; ends = rw first at starts });
          from_x = good_reach slack next g t (m - c.before) (k - i) x
              (record { pixels = c.goes; walk = rw e at c.walk_on; few = omega arith; ends = rw last at ends });
        }

    pub split : {m k x : ℕ} → t ≤ g x → Crossing slack next g t m k x → Halves slack next back g t m k x
    split h c = cut_halves h c.few c.walk c.starts c.ends (cut next back turn c.walk c.crosses)

  -- whatever the key of x: counting it twice only asks for more
  module _ (turn_back : (p q : ℕ) → Memᴰ q (back p) → Memᴰ p (next q)) where
    pub unsplit : {m k x : ℕ} → 1 ≤ t → Halves slack next back g t m k x → Crossing slack next g t m k x
    unsplit {m} {k} {x} positive c =
        let a = reach_good slack back g t positive c.l c.i x c.to_x in
        let b = reach_good slack next g t positive (m - c.l) (k - c.i) x c.from_x in
        let u = join back next turn_back {m = m} a.walk b.walk (omega (arith, c.l≤m)) in
        record {
          start = u.start;
          pixels = reverse_aux (tail a.pixels) b.pixels;
          walk = u.walk;
          crosses = reverse_aux_right (tail a.pixels) (walk_first b.walk);
          few = omega (arith, low_joined g t b.pixels a.walk, a.few, b.few, c.i≤k);
          starts = rw (joined_starts a.walk b.walk u.walk) a.ends;
          ends = rw (joined_ends a.walk b.walk) b.ends;
        }
