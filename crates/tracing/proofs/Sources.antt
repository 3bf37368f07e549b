-- Where the number of a pixel comes from. One that is at least t was made of the numbers to which the three steps lead, so that one of those is at least
-- t, with a gap less where the pixel's own key is below t.
use Prim.Native.Nat.{ℕ, zero, suc, ◌+◌, ◌-◌, ◌≤◌, ◌<◌, min, max}
use mathlib.Core.Path.{◌≡◌, refl}
use mathlib.Core.Bool.{Bool, true, false, cond}
use mathlib.Core.Logic.{inl, inr, ⊎_elim}
use native.Mathlib.Omega.{arith}
use lib.Dec.{eqb}
use borrow.Author.Tests.{ne_eqb}
use Rattle.basics.proofs.Numbers.{le_or_lt, le_max_split}
use Rattle.theory.proofs.LevelSets.{under_low, under_high}
use Rattle.plans.specs.Plans.{Sound, row_lo, row_hi, row_at, rows_in, starts, steps_at}
use Rattle.states.specs.States.{seen, ahead, Grown}
use Rattle.plans.specs.declared.plan.Plan.{Plan}
use Rattle.directions.proofs.TraceTaps.{Tap, seen_tap}
use Rattle.walks.specs.Picking.{Tells, TapTo, StepTo}
use Rattle.walks.specs.declared.stand.Stand.{Stand}
use Rattle.theory.specs.BestWalks.{under}

-- ---- where a step leads, said both ways

tap_to : (p : Plan) (s : Stand) (y X e m x : ℕ) → y ≤ 2 → Tap p y X s.state s.row s.pixel e m x → TapTo s y X e m x
tap_to p s zero X e m x few d =
    record { state = omega (arith, d.own refl); row = omega (arith, d.own refl); pixel = omega (arith, d.aside) }
tap_to p s (suc zero) X e m x few d =
    record { state = omega (arith, d.before refl); row = omega (arith, d.before refl); pixel = omega (arith, d.aside) }
tap_to p s (suc (suc y)) X e m x few d =
    let e= : suc (suc y) ≡ 2 = omega arith in
    record { state = omega (arith, d.beside e=); row = omega (arith, d.beside e=); pixel = omega (arith, d.aside) }

pub to_tap :
    (p : Plan) (s : Stand) (y X e m x : ℕ) → s.row < rows_in p s.state → row_lo p s.state s.row ≤ s.pixel →
    s.pixel < row_hi p s.state s.row → m < rows_in p e → row_lo p e m ≤ x → x < row_hi p e m → TapTo s y X e m x →
    Tap p y X s.state s.row s.pixel e m x
to_tap p s y X e m x row low high row' low' high' d =
    record {
      own = λ y=. (omega (arith, d.state), omega (arith, d.row));
      before = λ y=. (omega (arith, d.state), omega (arith, d.row));
      beside = λ y=. (omega (arith, d.state), omega (arith, d.row));
      aside = omega (arith, d.pixel);
      row = row;
      low = low;
      high = high;
      row' = row';
      low' = low';
      high' = high';
    }

-- ---- a number that is at least t comes from one

-- a pixel to which a step leads, where the number with j gaps is at least t
pub record Source (p : Plan) (f : ℕ → ℕ → ℕ → ℕ → ℕ) (s : Stand) (t j : ℕ) : Type 0 where
  pub state : ℕ
  pub row : ℕ
  pub pixel : ℕ
  pub led : StepTo p s state row pixel
  pub tells : Tells f p j t state row pixel

module _ (p : Plan) (sound : Sound p) (f : ℕ → ℕ → ℕ → ℕ → ℕ) (t : ℕ) (positive : 1 ≤ t) (s : Stand) (small : s.state < 65536)
    (row : s.row < rows_in p s.state) (low : row_lo p s.state s.row ≤ s.pixel) (high : s.pixel < row_hi p s.state s.row) where
  abbrev found : ℕ → ℕ → ℕ → ℕ
  found y j X = seen p s.state (f (s.state - 1)) (f s.state) y s.row j (s.pixel + X)

  tap_source : (y X j : ℕ) → y ≤ 2 → ((e m x : ℕ) → TapTo s y X e m x → StepTo p s e m x) → t ≤ found y j X → Source p f s t j
  tap_source y X j few led h =
      let d = seen_tap p sound f y X s.state s.row s.pixel j few row low high (omega arith) in
      record {
        state = d.state;
        row = d.row;
        pixel = d.pixel;
        led = led _ _ _ (tap_to p s y X d.state d.row d.pixel few d.tap);
        tells =
            record {
              row = d.tap.row';
              low = d.tap.low';
              high = d.tap.high';
              counts = omega (arith, d.is);
            };
      }

  abbrev before : ℕ → ℕ
  before layer = ahead p s.state (f (s.state - 1)) (f s.state) layer s.row s.pixel

  ahead_source : (j : ℕ) → t ≤ before (suc j) → Source p f s t j
  unfolding ahead
  ahead_source j h =
      let c = p.reach in
      let k0 = (sound.first s.state s.row row small).few in
      let k1 = (sound.second s.state s.row row small).few in
      let k2 = (sound.third s.state s.row row small).few in
      ⊎_elim
      (λ h. ⊎_elim
      (λ h. tap_source c.y0 c.x0 j k0 (λ e m x d. inl d) h)
      (λ h. tap_source c.y1 c.x1 j k1 (λ e m x d. inr (inl d)) h)
      (le_max_split t (found c.y0 j c.x0) (found c.y1 j c.x1) h))
      (λ h. tap_source c.y2 c.x2 j k2 (λ e m x d. inr (inr d)) h)
      (le_max_split t (max (found c.y0 j c.x0) (found c.y1 j c.x1)) (found c.y2 j c.x2) h)

  no_layer : t ≤ before 0 → ⊥
  unfolding ahead
  no_layer h = omega arith

  -- with the gaps that are left
  module _ (more : (e m j x : ℕ) → f e m j x ≤ f e m (suc j) x) where
    raised : (j : ℕ) → Source p f s t j → Source p f s t (suc j)
    raised j d =
        record {
          state = d.state;
          row = d.row;
          pixel = d.pixel;
          led = d.led;
          tells =
              record {
                row = d.tells.row;
                low = d.tells.low;
                high = d.tells.high;
                counts = omega (arith, d.tells.counts, more d.state d.row j d.pixel);
              };
        }

    low_source : (key j : ℕ) → key < t → t ≤ before j → (under t key ≤ j) × Source p f s t (j - under t key)
    low_source key zero l h = absurd (no_layer h)
    low_source key (suc j) l h =
        let e : suc j - under t key ≡ j = omega (arith, under_low t key l) in
        (omega (arith, under_low t key l), rw e (ahead_source j h))

    high_source : (j : ℕ) → t ≤ before j → Source p f s t j
    high_source zero h = absurd (no_layer h)
    high_source (suc j) h = raised j (ahead_source j h)

    either_source : (key j : ℕ) → t ≤ max (min key (before (suc j))) (before j) → Source p f s t j
    either_source key j h =
        ⊎_elim
        (λ (l : t ≤ min key (before (suc j))). let l' : t ≤ before (suc j) = omega arith in ahead_source j l')
        (λ (l : t ≤ before j). high_source j l)
        (le_max_split t (min key (before (suc j))) (before j) h)

    pub source :
        (keys : ℕ → ℕ) (j : ℕ) → Grown p s.state keys (f (s.state - 1)) (f s.state) → j < p.planes → starts p s.state s.row ≡ false →
        t ≤ f s.state s.row j s.pixel →
        let key = keys (row_at p s.state s.row + s.pixel) in (under t key ≤ j) × Source p f s t (j - under t key)
    source keys j grown few later h =
        let key : ℕ = keys (row_at p s.state s.row + s.pixel) in
        let is : f s.state s.row j s.pixel ≡ max (min key (before (suc j))) (before j) =
        grown.later s.row j s.pixel row few low high later in
        let told : t ≤ max (min key (before (suc j))) (before j) = omega arith in
        ⊎_elim
        (λ (l : t ≤ key).
        let e : j - under t key ≡ j = omega (arith, under_high t key l) in
        let o : under t key ≤ j = omega (arith, under_high t key l) in
        (o, rw e (either_source key j told)))
        (λ (l : key < t). let k : t ≤ before j = omega arith in low_source key j l k)
        (le_or_lt t key)

-- a row of walks of some steps is no starting row
pub later_row : (p : Plan) (e m n : ℕ) → steps_at p e m ≡ suc n → starts p e m ≡ false
unfolding starts
later_row p e m n h = go p.ranked h
  where
    go : (b : Bool) → cond b e m ≡ suc n → cond b (eqb e 0) (eqb m 0) ≡ false
    go true h = ne_eqb e 0 (λ z. omega arith)
    go false h = ne_eqb m 0 (λ z. omega arith)
