-- Rows of numbers: held ones, and what is made of them. A row is a function of plane and pixel, and a pixel plus one is written X. These definitions
-- serve contracts inside this crate only.
use Rattle.std.specs.Prelude.{ℕ, zero, suc, ◌+◌, ◌-◌, ◌*◌, ◌≤◌, ◌<◌, min, max, ◌≡◌, Bool, true, false, List, leb, length, get_or, ◌⊎◌}
use Rattle.states.specs.Runs.{Apart, greatest_at}
use Rattle.plans.specs.Plans.{pitch_of, block_of}
use Rattle.plans.specs.declared.plan.Plan.{Plan}
use Rattle.plans.specs.declared.plan.Row.{Row}
use Rattle.theory.specs.BestWalks.{alone}

abbrev pub gate : Bool → ℕ → ℕ
gate true v = v
gate false v = 0

-- a row's number at pixel X − 1, 0 where the row, with pixels from lo below hi, does not have it
unfoldable pub in_row : ℕ → ℕ → (ℕ → ℕ) → ℕ → ℕ
in_row lo hi f X = gate (leb (lo + 1) X) (gate (leb X hi) (f (X - 1)))

-- the row f stands at a slot, its numbers alone
pub record RowPut (held : List ℕ) (slot planes pitch lo hi : ℕ) (f : ℕ → ℕ → ℕ) : Type 0 where
  pub is : (j x : ℕ) → j < planes → lo ≤ x → x < hi → get_or held (slot + (j * pitch + (x + 1))) 0 ≡ f j x

-- the row f is held at a slot: its numbers, and a zero before and after them
pub record RowHeld (held : List ℕ) (slot planes pitch lo hi : ℕ) (f : ℕ → ℕ → ℕ) : Type 0 where
  pub is : (j X : ℕ) → j < planes → lo ≤ X → X ≤ hi + 1 → get_or held (slot + (j * pitch + X)) 0 ≡ in_row lo hi (f j) X

-- the row f stands in the work buffer, its planes one after the other
pub record RowStored (work : List ℕ) (at planes across lo hi : ℕ) (f : ℕ → ℕ → ℕ) : Type 0 where
  pub is : (j x : ℕ) → j < planes → lo ≤ x → x < hi → get_or work (at + (j * across + x)) 0 ≡ f j x

-- the greatest of the three numbers of a layer, layer j + 1 being plane j and layer 0 all zeros; t0, t1, t2 are where pixel 0 of plane 0 finds them
unfoldable pub layer_ahead : List ℕ → ℕ → ℕ → ℕ → ℕ → ℕ → ℕ → ℕ
layer_ahead held pitch t0 t1 t2 zero x = 0
layer_ahead held pitch t0 t1 t2 (suc j) x = greatest_at held (t0 + j * pitch) (t1 + j * pitch) (t2 + j * pitch) x

-- a new number, by its key and the held rows
abbrev pub blended : List ℕ → ℕ → ℕ → ℕ → ℕ → (ℕ → ℕ) → ℕ → ℕ → ℕ
blended held pitch t0 t1 t2 key j x =
    max (min (key x) (layer_ahead held pitch t0 t1 t2 (suc j) x)) (layer_ahead held pitch t0 t1 t2 j x)

-- the places from lo below hi
abbrev pub In : ℕ → ℕ → ℕ → Type 0
In lo hi X = (lo ≤ X) × (X < hi)

-- in the planes below `past` of a slot, new is f at the places that are P; all else is as it was
pub record Planes (P : ℕ → Type 0) (f : ℕ → ℕ → ℕ) (old new : List ℕ) (slot pitch past : ℕ) : Type 0 where
  pub inside : (j X : ℕ) → j < past → P X → get_or new (slot + (j * pitch + X)) 0 ≡ f j X
  pub outside : (j X : ℕ) → X < pitch → (P X → ⊥) → get_or new (slot + (j * pitch + X)) 0 ≡ get_or old (slot + (j * pitch + X)) 0
  pub apart : Apart old new slot (slot + past * pitch)

-- the pixels from lo below hi of a row that is made of held ones stand in all its planes, by these keys
abbrev pub Blent : List ℕ → List ℕ → (ℕ → ℕ) → ℕ → ℕ → ℕ → ℕ → ℕ → ℕ → ℕ → ℕ → Type 0
Blent old new key planes pitch t0 t1 t2 to lo hi =
    Planes (In (lo + 1) (hi + 1)) (λ (j X : ℕ). blended old pitch t0 t1 t2 key j (X - 1)) old new (to - 1) pitch planes

-- best has risen to two rows joined: plane j of the one and, counted from the last, plane j of the other. A maximum is told by what it is not below,
-- and by what it is not above.
pub record RowJoined (old new : List ℕ) (at planes lo hi : ℕ) (f g : ℕ → ℕ → ℕ) : Type 0 where
  pub grown : (q : ℕ) → get_or old q 0 ≤ get_or new q 0
  pub reached : (j x : ℕ) → j < planes → lo ≤ x → x < hi → min (f j x) (g (planes - 1 - j) x) ≤ get_or new (at + x) 0
  pub bounded : (b : ℕ → ℕ) → ((j x : ℕ) → j < planes → lo ≤ x → x < hi → min (f j x) (g (planes - 1 - j) x) ≤ b (at + x)) →
      (q : ℕ) → get_or new q 0 ≤ max (get_or old q 0) (b q)
  pub len : length new ≡ length old

-- the walks of no steps at the pixels from first below past of a slot, and the slot as it was elsewhere
pub record Started (old new : List ℕ) (key : ℕ → ℕ) (slot : ℕ) (p : Plan) (first past : ℕ) : Type 0 where
  pub inside : (j x : ℕ) → j < p.planes → first ≤ x → x < past → get_or new (slot + (j * pitch_of p + (x + 1))) 0 ≡ alone p.slack (key x) j
  pub outside : (j X : ℕ) → j < p.planes → X < pitch_of p → (X < first + 1) ⊎ (past + 1 ≤ X) →
      get_or new (slot + (j * pitch_of p + X)) 0 ≡ get_or old (slot + (j * pitch_of p + X)) 0
  pub apart : Apart old new slot (slot + block_of p)

-- ---- sizes

-- a row of a plan
pub record RowOf (p : Plan) (r : Row) : Type 0 where
  pub ordered : r.lo ≤ r.hi
  pub wide : r.hi ≤ p.across
  pub few_across : p.across ≤ 1024
  pub some_planes : 1 ≤ p.planes
  pub few_planes : p.planes ≤ 9

-- a held row fits at this slot
abbrev pub SlotOf : Plan → ℕ → ℕ → Type 0
SlotOf p slot size = slot + block_of p ≤ size

-- three held rows of this length, up to two pixels on, and a slot apart from them for another one, whose pixel 0 is at `to`
pub record TapsOf (block t0 t1 t2 to size : ℕ) : Type 0 where
  pub clear0 : (t0 + block ≤ to + 1) ⊎ (to + block ≤ t0 + 1)
  pub clear1 : (t1 + block ≤ to + 1) ⊎ (to + block ≤ t1 + 1)
  pub clear2 : (t2 + block ≤ to + 1) ⊎ (to + block ≤ t2 + 1)
  pub in0 : t0 + block ≤ size + 2
  pub in1 : t1 + block ≤ size + 2
  pub in2 : t2 + block ≤ size + 2
  pub some : 1 ≤ to
  pub in_to : to + block ≤ size + 1

-- eight pixels from x on can be made in all planes
pub record BlendFits (planes pitch x t0 t1 t2 to size : ℕ) : Type 0 where
  pub few : planes ≤ 9
  pub narrow : pitch ≤ 1040
  pub room : x + 10 ≤ pitch
  pub taps : TapsOf (planes * pitch) t0 t1 t2 to size
  pub small : size ≤ 40000
