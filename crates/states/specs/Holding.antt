-- The held rows while a state is made. These definitions serve contracts inside this crate only.
use Rattle.std.specs.Prelude.{ℕ, zero, suc, ◌+◌, ◌-◌, ◌*◌, ◌≤◌, ◌<◌, ◌≡◌, ◌⊎◌, true, List, length, get_or}
use Rattle.plans.specs.Plans.{rows_in, row_lo, row_hi, row_size, seen_lo, seen_hi, pitch_of, block_of, half_of, half_with}
use Rattle.states.specs.Runs.{Apart}
use Rattle.states.specs.States.{row_before, Grown, Chain}
use Rattle.plans.specs.declared.plan.Plan.{Plan}
use Rattle.states.specs.declared.state.Slots.{Slots}

-- the rows of one state and of the last, those of the number before apart from those of this number
pub record Slotted (p : Plan) (s : Slots) (size : ℕ) : Type 0 where
  pub either : (s.was + half_of p ≤ s.now) ⊎ (s.now + half_of p ≤ s.was)
  pub was_fits : s.was + half_of p ≤ size
  pub now_fits : s.now + half_of p ≤ size
  pub small : size ≤ 40000

-- the two halves with the rows of all states, in either order
pub record Halves (p : Plan) (more : ℕ) (s : Slots) (size : ℕ) : Type 0 where
  pub either : ((s.was ≡ 0) × (s.now ≡ half_with p more)) ⊎ ((s.was ≡ half_with p more) × (s.now ≡ 0))
  pub fits : half_with p more + half_with p more ≤ size
  pub small : size ≤ 40000

-- where a step's row begins: the row before of this state (0) and of the last (1), the same row of the last (2)
unfoldable pub tap_of : Plan → Slots → ℕ → ℕ
tap_of p s zero = s.was
tap_of p s (suc zero) = s.was + block_of p
tap_of p s (suc (suc y)) = s.now + block_of p

-- the rows from m on of the last state stand in the work buffer
pub record LastFrom (p : Plan) (e m : ℕ) (work : List ℕ) (from : ℕ) (last : ℕ → ℕ → ℕ → ℕ) : Type 0 where
  pub is : (d : ℕ) → p.linked ≡ true → e ≡ suc d → (n j x : ℕ) → m ≤ n → n < rows_in p d → j < p.planes → row_lo p d n ≤ x → x < row_hi p d n →
      get_or work (from + (n * row_size p + (j * p.across + x))) 0 ≡ last n j x

-- row m − 1 of the last state is held at a slot, as pixels plus one
pub record LastHeld (p : Plan) (e m : ℕ) (held : List ℕ) (slot : ℕ) (last : ℕ → ℕ → ℕ → ℕ) : Type 0 where
  pub none : e ≡ 0 → (j X : ℕ) → j < p.planes → X ≤ p.across + 1 → get_or held (slot + (j * pitch_of p + X)) 0 ≡ 0
  pub some : (d : ℕ) → e ≡ suc d → (j X : ℕ) → j < p.planes → seen_lo p d m ≤ X → X ≤ seen_hi p d m →
      get_or held (slot + (j * pitch_of p + X)) 0 ≡ row_before p d last m j X

-- rows m − 1 of this state and of the last are held in a half
pub record Ready (p : Plan) (e m : ℕ) (held : List ℕ) (half : ℕ) (last this : ℕ → ℕ → ℕ → ℕ) : Type 0 where
  pub own : (j X : ℕ) → j < p.planes → seen_lo p e m ≤ X → X ≤ seen_hi p e m → get_or held (half + (j * pitch_of p + X)) 0 ≡ row_before p e this m j X
  pub other : p.linked ≡ true → LastHeld p e m held (half + block_of p) last

-- row m of the last state has come to a slot
pub record LastRow (p : Plan) (e m : ℕ) (work : List ℕ) (from : ℕ) (held : List ℕ) (slot : ℕ) : Type 0 where
  pub is : (last : ℕ → ℕ → ℕ → ℕ) → p.linked ≡ true → LastFrom p e m work from last → LastHeld p e (suc m) held slot last

-- row m of this state has been made, beside that of the last
pub record MadeRow (p : Plan) (e m : ℕ) (work : List ℕ) (s : Slots) (old new : List ℕ) : Type 0 where
  pub is : (last this : ℕ → ℕ → ℕ → ℕ) → (p.linked ≡ true → LastHeld p e (suc m) old (s.now + block_of p) last) →
      Grown p e (λ q. get_or work q 0) last this → Ready p e m old s.was last this → Ready p e (suc m) new s.now last this
  pub apart : Apart old new s.now (s.now + block_of p)

-- rows m − 1 of all states are held in a half, the last state's first
pub record AllReady (p : Plan) (first past m : ℕ) (held : List ℕ) (half : ℕ) (f : ℕ → ℕ → ℕ → ℕ → ℕ) : Type 0 where
  pub is : (d : ℕ) → first ≤ d → d < past → Ready p d m held (half + (past - 1 - d) * block_of p) (f (d - 1)) (f d)

-- row m of all states has been made, that of the state before them being held beside the place of the first
pub record NextRows (p : Plan) (first past m : ℕ) (work : List ℕ) (s : Slots) (old new : List ℕ) : Type 0 where
  pub is : (f : ℕ → ℕ → ℕ → ℕ → ℕ) → (p.linked ≡ true → LastHeld p first (suc m) old (s.now + (past - first) * block_of p) (f (first - 1))) →
      Chain p first past (λ q. get_or work q 0) f → AllReady p first past m old s.was f → AllReady p first past (suc m) new s.now f
  pub len : length new ≡ length old

-- row m of all states has been made, that of the state before them being read from the work buffer
pub record AllRows (p : Plan) (first past m : ℕ) (work : List ℕ) (from : ℕ) (s : Slots) (old new : List ℕ) : Type 0 where
  pub is : (f : ℕ → ℕ → ℕ → ℕ → ℕ) → LastFrom p first m work from (f (first - 1)) → Chain p first past (λ q. get_or work q 0) f →
      AllReady p first past m old s.was f → AllReady p first past (suc m) new s.now f
  pub len : length new ≡ length old
