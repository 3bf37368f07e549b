-- The lists of paths of the definitions: nothing else opens `places`, `paths_from`, `paths_in`, `paths`, `through` and `crossed` (but the worked
-- plates, which are computed). The listed paths of L pixels are the walks of L − 1 steps that start on the plate; a walk leaves the plate at none
-- of its pixels, so one pixel on the plate is enough.
use Prim.Native.Nat.{ℕ, zero, suc, ◌*◌, ◌<◌}
use mathlib.Core.Path.{◌≡◌, refl, subst, ◌∙◌}
use mathlib.Core.List.Memᴰ
use mathlib.Core.List.{List, ◌∷◌, flat_map, Memᴰ}
use native.Mathlib.Nat.{zero-add}
use native.Mathlib.Omega.{arith}
use lib.Dec.{T, eqb, eqb→eq, eqb_refl}
use lib.ListN.{length, get_or}
use Rattle.basics.proofs.Lists.{any_find, any-keep, flat_map_find, flat_map-keep, map_find, map-keep, up_from_find, up_from_has, up_from-length, up_from_at}
use Rattle.plate.specs.Directions.{chosen}
use Rattle.plate.specs.Paths.{next, places, paths_from, paths_in, paths, through, crossed}
use Rattle.theory.specs.Walks.{Walk, Walk.stop, Walk.go}
use Rattle.theory.proofs.Steps.{next_on}

-- ---- the places of the plate: exactly the numbers below W × H, in their order

module _ (W H : ℕ) where
  pub places_find : (p : ℕ) → Memᴰ p (places W H) → p < W * H
  unfolding places
  places_find p i = omega (arith, (up_from_find 0 (W * H) p i).1)

  pub places_has : (p : ℕ) → p < W * H → Memᴰ p (places W H)
  unfolding places
  places_has p h = up_from_has 0 (W * H) p (omega arith) (omega arith)

  pub places_length : length (places W H) ≡ W * H
  unfolding places
  places_length = up_from-length 0 (W * H)

  pub places_at : (p d : ℕ) → p < W * H → get_or (places W H) p d ≡ p
  unfolding places
  places_at p d h = up_from_at 0 (W * H) p d h ∙ zero-add p

-- ---- through: x is one of the pixels

pub through_mem : (x : ℕ) (ps : List ℕ) → T (through x ps) → Memᴰ x ps
unfolding through
through_mem x ps h =
    let r = any_find (λ p. eqb p x) ps h in subst (λ (p : ℕ). Memᴰ p ps) (eqb→eq r.0 x r.2) r.1

pub mem_through : (x : ℕ) {ps : List ℕ} → Memᴰ x ps → T (through x ps)
unfolding through
mem_through x i = any-keep (λ p. eqb p x) x i (eqb_refl x)

-- ---- the paths of one direction

-- a walk of m steps with the pixels ps that starts on the plate
pub record Listed (W H bit m : ℕ) (ps : List ℕ) : Type 0 where
  pub start : ℕ
  pub start< : start < W * H
  pub walk : Walk (next W H bit) m start ps

module _ (W H bit : ℕ) where
  -- from one place
  pub walk_path : {m p : ℕ} {ps : List ℕ} → Walk (next W H bit) m p ps → Memᴰ ps (paths_from W H bit (suc m) p)
  unfolding paths_from
  walk_path stop = Memᴰ.head refl
  walk_path (go {m} {p} {q} {ps} e v) =
      map-keep (λ (path : List ℕ). p ∷ path) (flat_map-keep (paths_from W H bit (suc m)) ps e (walk_path v))

  pub path_walk : (m p : ℕ) (ps : List ℕ) → Memᴰ ps (paths_from W H bit (suc m) p) → Walk (next W H bit) m p ps
  unfolding paths_from
  path_walk zero p ps i = rw (Memᴰ.eq_of_singleton i) stop
  path_walk (suc m) p ps i =
      let r = map_find (λ (path : List ℕ). p ∷ path) (flat_map (paths_from W H bit (suc m)) (next W H bit p)) ps i in
      let s = flat_map_find (paths_from W H bit (suc m)) (next W H bit p) r.0 r.1 in
      rw r.2 (go s.1 (path_walk m s.0 r.0 s.2))

  -- from every place
  pub listed_walk : (m : ℕ) (ps : List ℕ) → Memᴰ ps (paths_in W H (suc m) bit) → Listed W H bit m ps
  unfolding paths_in
  listed_walk m ps i =
      let r = flat_map_find (paths_from W H bit (suc m)) (places W H) ps i in
      record { start = r.0; start< = places_find W H r.0 r.1; walk = path_walk m r.0 ps r.2 }

  pub walk_listed : {m p : ℕ} {ps : List ℕ} → p < W * H → Walk (next W H bit) m p ps → Memᴰ ps (paths_in W H (suc m) bit)
  unfolding paths_in
  walk_listed {m} {p} {ps} h w = flat_map-keep (paths_from W H bit (suc m)) ps (places_has W H p h) (walk_path w)

  -- a walk that starts on the plate stays there, and one that is there once started there
  pub walk_stays : {m p x : ℕ} {ps : List ℕ} → Walk (next W H bit) m p ps → p < W * H → Memᴰ x ps → x < W * H
  walk_stays stop h (Memᴰ.head e) = omega arith
  walk_stays stop h (Memᴰ.tail i) = absurd (mathlib.Core.List.Memᴰ.not-nil i)
  walk_stays (go e w) h (Memᴰ.head e') = omega arith
  walk_stays (go {p} {q} e w) h (Memᴰ.tail i) = walk_stays w (next_on W H bit p q e).1 i

  pub walk_started : {m p x : ℕ} {ps : List ℕ} → Walk (next W H bit) m p ps → Memᴰ x ps → x < W * H → p < W * H
  walk_started {x = x} (stop {p}) i h = let e : x ≡ p = Memᴰ.eq_of_singleton i in omega arith
  walk_started (go {p} {q} e w) i h = (next_on W H bit p q e).0

  -- so the pixels of a path are on the plate
  pub path_on : (L : ℕ) (ps : List ℕ) → Memᴰ ps (paths_in W H L bit) → (q : ℕ) → Memᴰ q ps → q < W * H
  unfolding paths_in paths_from
  path_on zero ps i q j = absurd (Memᴰ.not-nil (flat_map_find (paths_from W H bit zero) (places W H) ps i).2)
  path_on (suc m) ps i q j = let l = listed_walk m ps i in walk_stays l.walk l.start< j

-- ---- the paths of a set of directions

module _ (W H set L : ℕ) where
  -- each is a path of one of the directions
  pub paths_find : (ps : List ℕ) → Memᴰ ps (paths W H set L) → (bit : ℕ) × Memᴰ bit (chosen set) × Memᴰ ps (paths_in W H L bit)
  unfolding paths
  paths_find ps i = flat_map_find (paths_in W H L) (chosen set) ps i

  pub paths_keep : {bit : ℕ} {ps : List ℕ} → Memᴰ bit (chosen set) → Memᴰ ps (paths_in W H L bit) → Memᴰ ps (paths W H set L)
  unfolding paths
  paths_keep {ps = ps} i j = flat_map-keep (paths_in W H L) ps i j

  pub listed_on : (ps : List ℕ) → Memᴰ ps (paths W H set L) → (q : ℕ) → Memᴰ q ps → q < W * H
  listed_on ps i = let r = paths_find ps i in path_on W H r.0 L ps r.2

  -- x is crossed: one of them goes through it
  pub crossed_find : (x : ℕ) → T (crossed W H set L x) → (ps : List ℕ) × Memᴰ ps (paths W H set L) × Memᴰ x ps
  unfolding crossed
  crossed_find x h = let r = any_find (through x) (paths W H set L) h in (r.0, r.1, through_mem x r.0 r.2)

  pub crossed_keep : {x : ℕ} {ps : List ℕ} → Memᴰ ps (paths W H set L) → Memᴰ x ps → T (crossed W H set L x)
  unfolding crossed
  crossed_keep {x} {ps} i j = any-keep (through x) ps i (mem_through x j)
