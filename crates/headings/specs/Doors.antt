-- Which calls of this crate are taken: the plate has the direction and the pixel, and the path buffer the indices. A call that is not taken writes
-- nothing. These definitions serve contracts inside the engine only: no public contract cites them.
use Rattle.std.specs.Prelude.{ℕ, ◌-◌, ◌*◌, ◌^◌, Bool, cond, not, ◌&&◌, List, leb, ltb, length, get_or}
use Rattle.plate.specs.Refusals.{bad_size}
use Rattle.theory.specs.Ranks.{rank, steps_left}

-- the table has the direction, and a plate of this size the pixel at p
unfoldable pub stands_on : ℕ → ℕ → ℕ → ℕ → Bool
stands_on W H index p = not (bad_size W H) && ltb index 4 && ltb p (W * H)

-- the rank of the pixel along the direction, 0 where there is none
unfoldable pub rank_of : ℕ → ℕ → ℕ → ℕ → ℕ
rank_of W H index p = cond (stands_on W H index p) (rank W H (2 ^ index) p) 0

-- a buffer of this size has so many indices on from one, or back
unfoldable pub inside : Bool → (size start steps : ℕ) → Bool
inside backwards size start steps = leb size 65536 && ltb start size && cond backwards (leb steps start) (ltb steps (size - start))

-- the pixel at an index of the path has room for so many steps, and the path the indices
unfoldable pub goes_on : ℕ → ℕ → ℕ → Bool → (start steps : ℕ) → List ℕ → Bool
goes_on W H index backwards start steps path =
    inside backwards (length path) start steps
    && stands_on W H index (get_or path start 0)
    && leb steps (steps_left W H (2 ^ index) backwards (get_or path start 0))
