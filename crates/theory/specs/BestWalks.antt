-- The recursion that the engine computes: formulas (3) and (4) of source 001, taken on keys instead of on thresholds. A key is a level's height above
-- the lowest, and 0 also stands for 'no walk'. These definitions serve contracts inside the engine and the laws; no public contract cites them.
-- proofs/Decomposition.antt shows that `value` is the opened level's key.
use Rattle.std.specs.Prelude.{ℕ, zero, suc, ◌+◌, ◌-◌, min, max, Bool, cond, List, [], ◌∷◌, ltb, eqb, ℤ, get_or}
use Rattle.basics.specs.Lists.{up_from}
use Rattle.plate.specs.Levels.{key}
use Rattle.plate.specs.Paths.{next}
use Rattle.plate.specs.Opening.{level_at}
use Rattle.theory.specs.Walks.{back}

-- the key of a plate at a place
abbrev pub key_at : List ℤ → ℕ → ℕ
key_at f p = key (level_at f p)

-- ---- maxima

-- the greatest of g over some places, 0 where there is none
unfoldable pub best : (ℕ → ℕ) → List ℕ → ℕ
best g [] = 0
best g (q ∷ qs) = max (g q) (best g qs)

-- the greatest of g 0, .., g n
unfoldable pub upto : (ℕ → ℕ) → ℕ → ℕ
upto g n = best g (up_from 0 (suc n))

-- ---- low pixels

-- 1 where the key a is below t
unfoldable pub under : ℕ → ℕ → ℕ
under t a = cond (ltb a t) 1 0

-- how many pixels of a path have a key below t
unfoldable pub low_pixels : (ℕ → ℕ) → ℕ → List ℕ → ℕ
low_pixels g t [] = 0
low_pixels g t (p ∷ path) = under t (g p) + low_pixels g t path

-- how many of the n pixels from index a on are low
unfoldable pub low_from : (ℕ → ℕ) → ℕ → List ℕ → ℕ → ℕ → ℕ
low_from g t path a zero = 0
low_from g t path a (suc n) = under t (g (get_or path a 0)) + low_from g t path (suc a) n

-- ---- the best walk from a pixel

-- g at one gap fewer, 0 where there is none to spend
unfoldable pub fewer : (ℕ → ℕ) → ℕ → ℕ
fewer g zero = 0
fewer g (suc j) = g j

-- the highest key at which the end of a path may be a gap: every one, or none where ends must be crack (document 02, N5); called `slack` below
unfoldable pub gap_end : ℕ → ℕ
gap_end ends = cond (eqb ends 1) 0 65535

-- the highest key at which a pixel of key a may be an end of a path, with a gap left for it
abbrev pub ended : ℕ → ℕ → ℕ
ended slack a = max a slack

-- the highest key at which a single pixel of key a counts, with j gaps left for it
unfoldable pub alone : ℕ → ℕ → ℕ → ℕ
alone slack a zero = a
alone slack a (suc j) = ended slack a

-- the highest key t at which a walk of m steps from p has at most j pixels below t and may end where it does: the first pixel is at least t, or it is
-- a gap
unfoldable pub best_walk : ℕ → (ℕ → List ℕ) → (ℕ → ℕ) → ℕ → ℕ → ℕ → ℕ
best_walk slack next g zero j p = alone slack (g p) j
best_walk slack next g (suc m) j p =
    max (min (g p) (best (best_walk slack next g m j) (next p))) (fewer (λ i. best (best_walk slack next g m i) (next p)) j)

-- the same of the walks to a pixel that passes the test
unfoldable pub best_walk_to : ℕ → (ℕ → List ℕ) → (ℕ → ℕ) → (ℕ → Bool) → ℕ → ℕ → ℕ → ℕ
best_walk_to slack next g passes zero j p = cond (passes p) (alone slack (g p) j) 0
best_walk_to slack next g passes (suc m) j p =
    max (min (g p) (best (best_walk_to slack next g passes m j) (next p))) (fewer (λ i. best (best_walk_to slack next g passes m i) (next p)) j)

-- ---- the best walk through a pixel

-- one term: a walk of l steps that ends at x with at most i pixels low, and one of the other steps that starts there with the other gaps
abbrev pub joined_at : ℕ → (ℕ → List ℕ) → (ℕ → List ℕ) → (ℕ → ℕ) → ℕ → ℕ → ℕ → ℕ → ℕ → ℕ
joined_at slack next back g m k x l i = min (best_walk slack back g l i x) (best_walk slack next g (m - l) (k - i) x)

-- the best walk of m steps through x with at most k pixels low, but for the key of x itself
unfoldable pub best_through : ℕ → (ℕ → List ℕ) → (ℕ → List ℕ) → (ℕ → ℕ) → ℕ → ℕ → ℕ → ℕ
best_through slack next back g m k x = upto (λ l. upto (joined_at slack next back g m k x l) k) m

-- the same in a direction of the plate
abbrev pub in_direction : ℕ → ℕ → ℕ → ℕ → ℕ → ℕ → (ℕ → ℕ) → ℕ → ℕ
in_direction slack W H bit m k g x = best_through slack (next W H bit) (back W H bit) g m k x

-- one term in a direction of the plate
abbrev pub term : ℕ → ℕ → ℕ → ℕ → ℕ → ℕ → (ℕ → ℕ) → ℕ → ℕ → ℕ → ℕ
term slack W H bit m k g x l i = joined_at slack (next W H bit) (back W H bit) g m k x l i

-- the opened key at x, for the directions of these bits and paths of m steps
unfoldable pub value : ℕ → ℕ → ℕ → List ℕ → ℕ → ℕ → (ℕ → ℕ) → ℕ → ℕ
value slack W H bits m k g x = min (g x) (best (λ bit. in_direction slack W H bit m k g x) bits)
