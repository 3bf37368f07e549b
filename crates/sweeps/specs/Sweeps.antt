-- Two sides of a direction, swept and joined. These definitions serve contracts inside the engine only: no public contract cites them.
use Rattle.std.specs.Prelude.{ℕ, ◌+◌, ◌-◌, ◌≤◌, ◌<◌, min, max, ◌≡◌, List, length, get_or}
use Rattle.plans.specs.Plans.{rows_in, row_lo, row_hi, row_at}
use Rattle.stacks.specs.Stacks.{KeysAre, Sequence}
use Rattle.plans.specs.declared.plan.Plan.{Plan}

-- two plans with as many states, each the other's in the opposite order, and so are the rows of a state
pub record Opposite (p o : Plan) (states : ℕ) : Type 0 where
  pub few : states ≤ 1024
  pub same_planes : o.planes ≡ p.planes
  pub same_lines : o.lines ≡ p.lines
  pub same_across : o.across ≡ p.across
  pub same_rows : o.rows ≡ p.rows
  pub same_links : o.linked ≡ p.linked
  pub full : (e : ℕ) → e < states → rows_in p e ≡ p.rows
  pub full_other : (e : ℕ) → e < states → rows_in o e ≡ p.rows
  pub same_lo : (e m : ℕ) → e < states → m < p.rows → row_lo o (states - 1 - e) (p.rows - 1 - m) ≡ row_lo p e m
  pub same_hi : (e m : ℕ) → e < states → m < p.rows → row_hi o (states - 1 - e) (p.rows - 1 - m) ≡ row_hi p e m

-- the two numbers that meet at a pixel, one of each side
abbrev pub met : Plan → ℕ → (f g : ℕ → ℕ → ℕ → ℕ → ℕ) → ℕ → ℕ → ℕ → ℕ → ℕ
met p states f g e m j x = min (f e m j x) (g (states - 1 - e) (p.rows - 1 - m) (p.planes - 1 - j) x)

-- best has risen to the numbers that meet in the states from `from` on. A maximum is told by what it is not below, and by what it is not above.
pub record AllJoined (p : Plan) (states from : ℕ) (f g : ℕ → ℕ → ℕ → ℕ → ℕ) (old new : List ℕ) : Type 0 where
  pub grown : (q : ℕ) → get_or old q 0 ≤ get_or new q 0
  pub reached : (e m j x : ℕ) → from ≤ e → e < states → m < p.rows → j < p.planes → row_lo p e m ≤ x → x < row_hi p e m →
      met p states f g e m j x ≤ get_or new (row_at p e m + x) 0
  pub bounded : (b : ℕ → ℕ) →
      ((e m j x : ℕ) → from ≤ e → e < states → m < p.rows → j < p.planes → row_lo p e m ≤ x → x < row_hi p e m →
      met p states f g e m j x ≤ b (row_at p e m + x)) →
      (q : ℕ) → get_or new q 0 ≤ max (get_or old q 0) (b q)
  pub len : length new ≡ length old

-- all states are swept and joined, whatever they are
pub record Swept (p o : Plan) (states : ℕ) (work old new : List ℕ) : Type 0 where
  pub is : (keys : ℕ → ℕ) (f g : ℕ → ℕ → ℕ → ℕ → ℕ) → KeysAre work p keys → Sequence p keys states f → Sequence o keys states g →
      AllJoined p states 0 f g old new
