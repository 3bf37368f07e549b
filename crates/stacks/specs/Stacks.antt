-- The states of a sweep, and the stack of them in the work buffer. These definitions serve contracts inside the engine only: no public contract
-- cites them.
use Rattle.std.specs.Prelude.{ℕ, zero, suc, ◌+◌, ◌-◌, ◌*◌, ◌≤◌, ◌<◌, ◌≡◌, List, length, get_or}
use Rattle.states.specs.Runs.{Apart}
use Rattle.plans.specs.Plans.{keys_size, state_size}
use Rattle.states.specs.States.{Grown, Holds, LastHolds}
use Rattle.plans.specs.declared.plan.Plan.{Plan}
use Rattle.stacks.specs.declared.stack.Stack.{Stack}

-- the keys at the beginning of the work buffer
pub record KeysAre (work : List ℕ) (p : Plan) (keys : ℕ → ℕ) : Type 0 where
  pub is : (q : ℕ) → q < keys_size p → get_or work q 0 ≡ keys q

-- the states of a sweep, each made of the one before
pub record Sequence (p : Plan) (keys : ℕ → ℕ) (states : ℕ) (f : ℕ → ℕ → ℕ → ℕ → ℕ) : Type 0 where
  pub grown : (e : ℕ) → e < states → Grown p e keys (f (e - 1)) (f e)

-- how many states are made with the last one of a stack, 0 where it is empty
unfoldable pub last_mark : List ℕ → ℕ → ℕ
last_mark marks zero = 0
last_mark marks (suc t) = get_or marks t 0

-- the states of the stack, one after the other from base on; each mark is the number of its state plus one
pub record Stacked (work marks : List ℕ) (base : ℕ) (p : Plan) (f : ℕ → ℕ → ℕ → ℕ → ℕ) (depth : ℕ) : Type 0 where
  pub marked : (t : ℕ) → t < depth → 1 ≤ get_or marks t 0
  pub few : (t : ℕ) → t < depth → get_or marks t 0 ≤ 1024
  pub holds : (t : ℕ) → t < depth → Holds work (base + t * state_size p) p (get_or marks t 0 - 1) (f (get_or marks t 0 - 1))

-- the stack has room
pub record StackFits (p : Plan) (s : Stack) (work marks : ℕ) : Type 0 where
  pub past_keys : keys_size p ≤ s.base
  pub near : s.base < 16777216
  pub some : 1 ≤ s.places
  pub few : s.places ≤ 64
  pub deep : s.depth ≤ s.places
  pub in_work : s.base + s.places * state_size p ≤ work
  pub in_marks : s.places ≤ marks

-- the states from first below past are made, the last of them at `to`, whatever they are
pub record RunOn (p : Plan) (first past : ℕ) (old new : List ℕ) (from to : ℕ) : Type 0 where
  pub is : (keys : ℕ → ℕ) (f : ℕ → ℕ → ℕ → ℕ → ℕ) → KeysAre old p keys → Sequence p keys past f → LastHolds old from p first (f (first - 1)) →
      Holds new to p (past - 1) (f (past - 1))
  pub apart : Apart old new to (to + state_size p)

-- a stack of one state more, the last of the first `past` states of a sweep, whatever they are
pub record Pushed (p : Plan) (base depth past : ℕ) (old marks new marks' : List ℕ) : Type 0 where
  pub is : (keys : ℕ → ℕ) (f : ℕ → ℕ → ℕ → ℕ → ℕ) → KeysAre old p keys → Sequence p keys past f → Stacked old marks base p f depth →
      Stacked new marks' base p f (depth + 1)
  pub apart : Apart old new (base + depth * state_size p) (base + (depth + 1) * state_size p)
  pub len : length marks' ≡ length marks

-- a stack with which so many states are made as are wanted, or up to `spare` fewer
pub record Fetched (p : Plan) (s : Stack) (depth want spare : ℕ) (old marks new marks' : List ℕ) : Type 0 where
  pub is : (keys : ℕ → ℕ) (f : ℕ → ℕ → ℕ → ℕ → ℕ) → KeysAre old p keys → Sequence p keys want f → Stacked old marks s.base p f s.depth →
      Stacked new marks' s.base p f depth
  pub not_past : last_mark marks' depth ≤ want
  pub near : want ≤ last_mark marks' depth + spare
  pub apart : Apart old new s.base (s.base + s.places * state_size p)
  pub len : length marks' ≡ length marks
