-- What walks count for that end at a pixel: the number of the pixel, but no more than a path may end there. Where the work buffer holds a state and the
-- keys, it holds that too.
use Prim.Native.Nat.{ℕ, ◌+◌, ◌≤◌, ◌<◌, min}
use mathlib.Core.Path.{◌≡◌}
use mathlib.Core.List.{List}
use native.Mathlib.Omega.{arith}
use Rattle.plans.specs.Plans.{Sound, rows_in, row_lo, row_hi, row_at}
use Rattle.plans.specs.declared.plan.Plan.{Plan}
use Rattle.states.specs.States.{Holds}
use Rattle.stacks.specs.Stacks.{KeysAre}
use Rattle.theory.specs.BestWalks.{ended}
use Rattle.walks.specs.Endings.{ended_in}

-- the numbers of states, as walks that end at a pixel count for them
abbrev pub ended_by : ℕ → Plan → (ℕ → ℕ) → (ℕ → ℕ → ℕ → ℕ → ℕ) → ℕ → ℕ → ℕ → ℕ → ℕ
ended_by slack p keys f e m j x = min (f e m j x) (ended slack (keys (row_at p e m + x)))

-- the work buffer holds them, with the state and its keys
pub ended_held :
    (p : Plan) → Sound p → (slack base e : ℕ) (work : List ℕ) (keys : ℕ → ℕ) (f : ℕ → ℕ → ℕ → ℕ → ℕ) → e < 65536 → Holds work base p e (f e) →
    KeysAre work p keys → (m j x : ℕ) → m < rows_in p e → j < p.planes → row_lo p e m ≤ x → x < row_hi p e m →
    ended_in work slack base p e m j x ≡ ended_by slack p keys f e m j x
ended_held p sound slack base e work keys f few held k m j x hm hj lo hi =
    let fits = sound.fits e m hm few in
    rw (held.is m j x hm hj lo hi, k.is (row_at p e m + x) (omega (arith, fits.keyed, fits.wide)))
