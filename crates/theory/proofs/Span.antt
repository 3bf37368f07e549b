-- The span law: a path of length L goes through a pixel exactly when L is at most the direction's span, whichever the pixel. Each step raises the
-- rank, so a walk of m steps wants m ranks above its start; and where they are left, steps that raise the rank by one lead on. The same backwards.
-- Through a pixel: as many steps back as the rank allows, the others on.
use Prim.Native.Nat.{ℕ, zero, suc, ◌+◌, ◌-◌, ◌*◌, ◌≤◌, ◌<◌, min}
use mathlib.Core.Path.{◌≡◌, refl}
use mathlib.Core.List.{List, [], ◌∷◌, tail, Memᴰ}
use native.Mathlib.Omega.{arith}
use lib.Dec.{T, leb, leb→le, le→leb}
use Rattle.basics.specs.Lists.{any}
use Rattle.basics.proofs.Lists.{any_find, any-keep, keep_find, reverse_aux_right}
use Rattle.basics.proofs.Tests.{same_test}
use Rattle.plate.specs.Directions.{member, chosen}
use Rattle.plate.specs.Paths.{next, paths_in, through, crossed, span}
use Rattle.theory.specs.Walks.{Walk, Walk.stop, Walk.go, WalkFrom, back}
use Rattle.theory.specs.Ranks.{rank}
use Rattle.theory.proofs.Walks.{walk_first, step_first}
use Rattle.theory.proofs.Steps.{next_on}
use Rattle.theory.proofs.Cutting.{join}
use Rattle.theory.proofs.Listed.{through_mem, mem_through, listed_walk, walk_listed, walk_started, paths_find, paths_keep, crossed_find, crossed_keep}
use Rattle.theory.proofs.Reversal.{back_on, turn_back}
use Rattle.theory.proofs.Ranks.{bits, Ranked, ranked}

-- ---- over any direction with ranks: how many steps lead on from a pixel, and how many lead to it

module _ (W H bit : ℕ) (R : Ranked W H bit) where
  pub walk_fits : {m p : ℕ} {ps : List ℕ} → p < W * H → Walk (next W H bit) m p ps → rank W H bit p + m < span W H bit
  walk_fits h (stop {p}) = omega (arith, R.rank_bound p h)
  walk_fits h (go {p} {q} i w) = omega (arith, R.rank_up p q i, walk_fits (next_on W H bit p q i).1 w)

  pub walk_exists : (m p : ℕ) → p < W * H → rank W H bit p + m < span W H bit → WalkFrom (next W H bit) m p
  walk_exists zero p h l = record { pixels = p ∷ []; walk = stop }
  walk_exists (suc m) p h l =
      let r = R.rank_next p h (omega arith) in
      step_first r.1 (walk_exists m r.0 (next_on W H bit p r.0 r.1).1 (omega arith))

  pub back_fits : {m p : ℕ} {ps : List ℕ} → Walk (back W H bit) m p ps → m ≤ rank W H bit p
  back_fits stop = omega arith
  back_fits (go {p} {q} i w) = omega (arith, R.rank_up q p (turn_back W H bit p q i), back_fits w)

  pub back_exists : (m p : ℕ) → p < W * H → m ≤ rank W H bit p → WalkFrom (back W H bit) m p
  back_exists zero p h l = record { pixels = p ∷ []; walk = stop }
  back_exists (suc m) p h l =
      let r = R.rank_back p h (omega arith) in
      step_first r.1 (back_exists m r.0 (back_on W H bit p r.0 r.1).1 (omega arith))

  -- a steps to x and b steps on from there, as one listed path
  meet : {a b x : ℕ} → x < W * H → WalkFrom (back W H bit) a x → WalkFrom (next W H bit) b x → T (any (through x) (paths_in W H (suc (b + a)) bit))
  meet {x = x} h v w =
      let i = reverse_aux_right (tail v.pixels) (walk_first w.walk) in
      let u = join (back W H bit) (next W H bit) (turn_back W H bit) v.walk w.walk refl in
      any-keep (through x) _ (walk_listed W H bit (walk_started W H bit u.walk i h) u.walk) (mem_through x i)

  through_exists : (m x : ℕ) → x < W * H → m < span W H bit → T (any (through x) (paths_in W H (suc m) bit))
  through_exists m x h l =
      let a : ℕ = min m (rank W H bit x) in
      let e : m - a + a ≡ m = omega arith in
      let r = R.rank_bound x h in
      rw e at (meet h (back_exists a x h (omega arith)) (walk_exists (m - a) x h (omega arith)))

-- ---- the law, of the listed paths of a direction and of a set of directions

module _ (W H : ℕ) where
  pub span_through : (bit L x : ℕ) → Memᴰ bit bits → x < W * H → 1 ≤ L → L ≤ span W H bit → T (any (through x) (paths_in W H L bit))
  span_through bit zero x i h o l = absurd (omega arith)
  span_through bit (suc m) x i h o l = through_exists W H bit (ranked W H bit i) m x h (omega arith)

  pub path_fits : (bit L : ℕ) (ps : List ℕ) → Memᴰ bit bits → Memᴰ ps (paths_in W H L bit) → L ≤ span W H bit
  path_fits bit zero ps i j = omega arith
  path_fits bit (suc m) ps i j =
      let w = listed_walk W H bit m ps j in omega (arith, walk_fits W H bit (ranked W H bit i) w.start< w.walk)

  pub through_span : (bit L x : ℕ) → Memᴰ bit bits → T (any (through x) (paths_in W H L bit)) → L ≤ span W H bit
  through_span bit L x i t = let f = any_find (through x) (paths_in W H L bit) t in path_fits bit L f.0 i f.1

-- a direction of the set whose span is at least L
pub record Spans (W H set L : ℕ) : Type 0 where
  pub bit : ℕ
  pub in_set : Memᴰ bit (chosen set)
  pub long : L ≤ span W H bit

pub chosen_bits : (set bit : ℕ) → Memᴰ bit (chosen set) → Memᴰ bit bits
unfolding chosen
chosen_bits set bit i = (keep_find (member set) bit bits i).0

module _ (W H set L x : ℕ) where
  pub crossed_spans : T (crossed W H set L x) → Spans W H set L
  crossed_spans t =
      let f = crossed_find W H set L x t in
      let g = paths_find W H set L f.0 f.1 in
      record { bit = g.0; in_set = g.1; long = path_fits W H g.0 L f.0 (chosen_bits set g.0 g.1) g.2 }

  pub spans_crossed : x < W * H → 1 ≤ L → Spans W H set L → T (crossed W H set L x)
  spans_crossed h o s =
      let f = any_find (through x) (paths_in W H L s.bit) (span_through W H s.bit L x (chosen_bits set s.bit s.in_set) h o s.long) in
      crossed_keep W H set L (paths_keep W H set L s.in_set f.1) (through_mem x f.0 f.2)

  -- so whether a path crosses x is decided by numbers alone
  pub crossed_by_span : x < W * H → 1 ≤ L → crossed W H set L x ≡ any (λ bit. leb L (span W H bit)) (chosen set)
  crossed_by_span h o =
      same_test (crossed W H set L x) (any (λ bit. leb L (span W H bit)) (chosen set))
      (λ t. let s = crossed_spans t in any-keep (λ bit. leb L (span W H bit)) s.bit s.in_set (le→leb L (span W H s.bit) s.long))
      (λ t. let f = any_find (λ bit. leb L (span W H bit)) (chosen set) t in
      spans_crossed h o (record { bit = f.0; in_set = f.1; long = leb→le L (span W H f.0) f.2 }))
