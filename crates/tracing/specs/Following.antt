-- The walks that a trace follows, and how many gaps their trail has. These definitions serve contracts inside the engine only: no public contract cites
-- them.
use Rattle.std.specs.Prelude.{ℕ, ◌+◌, ◌-◌, ◌*◌, ◌≤◌, ◌<◌, ◌≡◌, Bool, true, false, List, length, ℤ}
use Rattle.plans.specs.Plans.{steps_at, half_of}
use Rattle.stacks.specs.Stacks.{KeysAre, Stacked, StackFits}
use Rattle.plans.specs.declared.plan.Plan.{Plan}
use Rattle.stacks.specs.declared.stack.Stack.{Stack}
use Rattle.directions.specs.Numbers.{place_kept}
use Rattle.walks.specs.Picking.{Tells}
use Rattle.walks.specs.declared.stand.Stand.{Stand}
use Rattle.tracing.specs.Scans.{key_of}
use Rattle.tracing.specs.Sights.{seen_at}
use Rattle.tracing.specs.declared.scan.Scan.{Scan}
use Rattle.directions.specs.declared.sight.Sight.{Sight}
use Rattle.theory.specs.BestWalks.{best_walk, low_from, ended}
use Rattle.theory.specs.Walks.{around}
use Rattle.theory.specs.Ranks.{steps_left}

-- From p a walk of m steps leads on that has at most j pixels below t and may end where it does, and no more room than `spare` is left beside it: p
-- stands where a path has it that is so much shorter than the longest.
pub record Leads (slack W H bit : ℕ) (backwards : Bool) (g : ℕ → ℕ) (t spare m j p : ℕ) : Type 0 where
  pub on : p < W * H
  pub counts : t ≤ best_walk slack (around backwards W H bit) g m j p
  pub roomy : m ≤ steps_left W H bit backwards p
  pub near : steps_left W H bit backwards p ≤ m + spare

-- how many of the first n pixels of a trail have a key below t
abbrev pub low_along : Bool → (ℕ → ℕ) → ℕ → List ℕ → ℕ → ℕ → ℕ
low_along true g t path start n = low_from g t path (start + 1 - n) n
low_along false g t path start n = low_from g t path start n

-- ---- the walks that are followed

-- a path that counts at t may end at the pixel q
abbrev pub EndsAt : Scan → List ℤ → ℕ → ℕ → Type 0
EndsAt s plate t q = t ≤ ended s.slack (key_of s plate q)

-- a stand n steps from the picked pixel: with its gaps, the walks of n steps count there at t
pub record Stands (s : Scan) (backwards : Bool) (plate : List ℤ) (x : ℕ) (r : Sight) (t n : ℕ) (stand : Stand) : Type 0 where
  pub state : stand.state < r.states
  pub steps : steps_at r.plan stand.state stand.row ≡ n
  pub gaps : stand.gaps ≤ s.setting.gaps
  pub tells : Tells (seen_at s backwards plate x r) r.plan stand.gaps t stand.state stand.row stand.pixel

-- the keys and some states of a sight stand in the work buffer
pub record Kept (s : Scan) (backwards : Bool) (plate : List ℤ) (x : ℕ) (r : Sight) (work marks : List ℕ) (stack : Stack) : Type 0 where
  pub keys : KeysAre work r.plan (λ q. key_of s plate (place_kept r.frame r.plan.ranked q))
  pub states : Stacked work marks stack.base r.plan (seen_at s backwards plate x r) stack.depth
  pub fits : StackFits r.plan stack (length work) (length marks)

-- the rows that are held while a state is made find room
pub record HeldFit (p : Plan) (held : ℕ) : Type 0 where
  pub halves : half_of p + half_of p ≤ held
  pub few : held ≤ 40000
