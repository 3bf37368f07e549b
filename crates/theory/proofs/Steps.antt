-- What a step says: it leads from a column and a row of the plate to a column and a row of the plate, and what a list of steps reaches, one of
-- them reaches. Nothing else opens `place_at`, `step_from`, `arrivals` and `reached_by`.
use Prim.Native.Nat.{ℕ, zero, suc, ◌+◌, ◌*◌, ◌/◌, ◌%◌, ◌<◌}
use mathlib.Core.Path.{◌≡◌, refl, sym, ap, ◌∙◌}
use mathlib.Core.Bool.{Bool, true, false, cond, ◌&&◌}
use mathlib.Core.List.Memᴰ
use mathlib.Core.List.{List, [], ◌∷◌, Memᴰ}
use mathlib.Core.Logic.{◌⊎◌, inl, inr, ⊎_elim}
use native.Mathlib.Nat.{mod-lt, div-lt_iff_lt-mul, zero-mul}
use native.Mathlib.Omega.{arith}
use lib.Arith.{digits_lt, digits_div, digits_mod}
use lib.Dec.{ltb}
use lib.IntN.{ℤ, pos, negsuc, ◌+ℤ◌}
use borrow.Author.Tests.{lt-ltb, ltb-true}
use Rattle.plate.specs.Directions.{Step, steps}
use Rattle.plate.specs.Paths.{Reached, Reached.at, Reached.leaves, place_at, step_from, arrivals, reached_by, next}

-- a place of the plate at a column and a row
pub record Landed (W H : ℕ) (x y : ℤ) (q : ℕ) : Type 0 where
  pub col : ℕ
  pub row : ℕ
  pub is_col : x ≡ pos col
  pub is_row : y ≡ pos row
  pub col< : col < W
  pub row< : row < H
  pub place : q ≡ row * W + col

clash : {q : ℕ} {A : Type 0} → leaves ≡ at q → A
clash e = absurd (let z : ◌≡◌ {A = ℕ} 0 1 = cc in omega arith)

pub landed : (W H : ℕ) (x y : ℤ) (q : ℕ) → place_at W H x y ≡ at q → Landed W H x y q
unfolding place_at
landed W H (pos c) (pos r) q e = go (ltb c W) refl (ltb r H) refl e
  where
    go : (a : Bool) → ltb c W ≡ a → (b : Bool) → ltb r H ≡ b → cond (a && b) (at (r * W + c)) leaves ≡ at q → Landed W H (pos c) (pos r) q
    go true ea true eb e' = record { col = c; row = r; is_col = refl; is_row = refl; col< = ltb-true c W ea; row< = ltb-true r H eb; place = cc }
    go true ea false eb e' = clash e'
    go false ea b eb e' = clash e'
landed W H (pos c) (negsuc r) q e = clash e
landed W H (negsuc c) y q e = clash e

pub lands : (W H c r : ℕ) → c < W → r < H → place_at W H (pos c) (pos r) ≡ at (r * W + c)
unfolding place_at
lands W H c r hc hr = rw (lt-ltb c W hc, lt-ltb r H hr)

-- a step from p that reaches q starts on the plate and lands there
pub stepped : (W H : ℕ) (s : Step) (p q : ℕ) → step_from W H p s ≡ at q → (p < W * H) × Landed W H (pos (p % W) +ℤ s.column) (pos (p / W) +ℤ s.row) q
unfolding step_from
stepped W H s p q e = go (ltb p (W * H)) refl e
  where
    go : (b : Bool) → ltb p (W * H) ≡ b → cond b (place_at W H (pos (p % W) +ℤ s.column) (pos (p / W) +ℤ s.row)) leaves ≡ at q → (p < W * H) × Landed W H (pos (p % W) +ℤ s.column) (pos (p / W) +ℤ s.row) q
    go true eb e' = (ltb-true p (W * H) eb, landed W H _ _ q e')
    go false eb e' = clash e'

-- and a step from one column and row to another, both on the plate, reaches it
pub step_to :
    (W H : ℕ) (s : Step) (c r d e : ℕ) → c < W → r < H → d < W → e < H → pos c +ℤ s.column ≡ pos d → pos r +ℤ s.row ≡ pos e →
    step_from W H (r * W + c) s ≡ at (e * W + d)
unfolding step_from
step_to W H s c r d e hc hr hd he x y =
    let on : r * W + c < W * H = omega (arith, digits_lt hr hc) in
    rw (lt-ltb (r * W + c) (W * H) on, digits_mod r hc, digits_div r hc, x, y, lands W H d e hd he)

pub landed_on : {W H : ℕ} {x y : ℤ} {q : ℕ} → Landed W H x y q → q < W * H
landed_on l = omega (arith, digits_lt l.row< l.col<, l.place)

pub landed_column : {W H : ℕ} {x y : ℤ} {q : ℕ} (l : Landed W H x y q) → q % W ≡ l.col
landed_column {W} l = ap (λ (n : ℕ). n % W) l.place ∙ digits_mod l.row l.col<

pub landed_row : {W H : ℕ} {x y : ℤ} {q : ℕ} (l : Landed W H x y q) → q / W ≡ l.row
landed_row {W} l = ap (λ (n : ℕ). n / W) l.place ∙ digits_div l.row l.col<

-- the column and the row of a place of the plate
pub column_below : (W H p : ℕ) → p < W * H → p % W < W
column_below zero H p h = absurd (omega (arith, zero-mul H))
column_below (suc W) H p h = mod-lt p (omega arith)

pub row_below : (W H p : ℕ) → p < W * H → p / W < H
row_below zero H p h = absurd (omega (arith, zero-mul H))
row_below (suc W) H p h = (div-lt_iff_lt-mul {k = suc W} (omega arith)).1 (omega arith)

-- ---- the places that a list of steps reaches

arrives : (r : Reached) (rs : List Reached) (q : ℕ) → Memᴰ q (arrivals (r ∷ rs)) → (r ≡ at q) ⊎ Memᴰ q (arrivals rs)
unfolding arrivals
arrives (at p) rs q i = ⊎_elim (λ e. inl (ap at (sym e))) inr (Memᴰ.cases_cons i)
arrives leaves rs q i = inr i

arrive_here : (r : Reached) (rs : List Reached) (q : ℕ) → r ≡ at q → Memᴰ q (arrivals (r ∷ rs))
unfolding arrivals
arrive_here (at p) rs q e = (let e' : q ≡ p = cc in Memᴰ.head e')
arrive_here leaves rs q e = clash e

arrive_later : (r : Reached) (rs : List Reached) (q : ℕ) → Memᴰ q (arrivals rs) → Memᴰ q (arrivals (r ∷ rs))
unfolding arrivals
arrive_later (at p) rs q i = Memᴰ.tail i
arrive_later leaves rs q i = i

arrive_none : (q : ℕ) → Memᴰ q (arrivals []) → ⊥
unfolding arrivals
arrive_none q i = Memᴰ.not-nil i

-- q is reached by one of the steps
pub reached_find : (W H : ℕ) (ss : List Step) (p q : ℕ) → Memᴰ q (reached_by W H ss p) → (s : Step) × Memᴰ s ss × (step_from W H p s ≡ at q)
unfolding reached_by
reached_find W H [] p q i = absurd (arrive_none q i)
reached_find W H (s ∷ ss) p q i =
    ⊎_elim (λ e. (s, Memᴰ.head refl, e))
    (λ j. let r = reached_find W H ss p q j in (r.0, Memᴰ.tail r.1, r.2)) (arrives _ _ q i)

pub reached_keep : (W H : ℕ) (p q : ℕ) {s : Step} {ss : List Step} → Memᴰ s ss → step_from W H p s ≡ at q → Memᴰ q (reached_by W H ss p)
unfolding reached_by
reached_keep W H p q {s} (Memᴰ.head {x = s'} {xs} e) h = arrive_here _ _ q (ap (step_from W H p) (sym e) ∙ h)
reached_keep W H p q (Memᴰ.tail m) h = arrive_later _ _ q (reached_keep W H p q m h)

-- a step starts and ends on the plate
pub reached_on : (W H : ℕ) (ss : List Step) (p q : ℕ) → Memᴰ q (reached_by W H ss p) → (p < W * H) × (q < W * H)
reached_on W H ss p q i =
    let r = reached_find W H ss p q i in let l = stepped W H r.0 p q r.2 in (l.0, landed_on l.1)

pub next_on : (W H bit p q : ℕ) → Memᴰ q (next W H bit p) → (p < W * H) × (q < W * H)
unfolding next
next_on W H bit p q i = reached_on W H (steps bit) p q i
