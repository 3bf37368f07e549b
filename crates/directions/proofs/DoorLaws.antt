-- What the doors' tests say of numbers that pass them, and that numbers of which it holds pass.
use Prim.Native.Nat.{ℕ, ◌+◌, ◌*◌, ◌^◌, ◌≤◌, ◌<◌}
use mathlib.Core.Path.{◌≡◌, refl}
use mathlib.Core.Bool.{Bool, true, false, not, ◌&&◌, ◌||◌}
use mathlib.Core.List.{List}
use mathlib.Core.Logic.{inl, inr}
use native.Mathlib.Nat.{mul-le-mul}
use native.Mathlib.Omega.{arith}
use lib.Dec.{leb, eqb}
use lib.IntN.{ℤ}
use borrow.Author.Tests.{le-leb, leb-true, eq-eqb, eqb-true, lt-ltb}
use Rattle.basics.proofs.Numbers.{le_or_lt}
use Rattle.plate.specs.Limits.{max_length, max_gaps}
use Rattle.plate.specs.Paths.{span}
use Rattle.plate.specs.Refusals.{bad_size}
use Rattle.plate.specs.Sizes.{GoodSize, span_of}
use Rattle.plate.specs.declared.setting.Setting.{Setting}
use Rattle.plate.proofs.Sizes.{good_size}
use Rattle.plate.proofs.Spans.{no_size, no_direction, span_good}
use Rattle.frames.specs.declared.frame.Frame.{Frame}
use Rattle.states.specs.Runs.{Between}
use Rattle.plans.proofs.FormFacts.{both}
use Rattle.directions.specs.Numbers.{KeptOn, place_kept, keys_by, SmallKept}
use Rattle.directions.specs.Doors.{frame_of, fits, opens, keeps, lays, Laid, place_kept_by}
use Rattle.directions.proofs.TableLaws.{frame_known}

-- ---- a direction of the table on a plate

-- a direction with paths is one of the table's, on a size that is allowed
pub span_some : (W H index : ℕ) → 1 ≤ span_of W H index → GoodSize W H × (index < 4)
span_some W H index some = go (bad_size W H) refl
  where
    go : (b : Bool) → bad_size W H ≡ b → GoodSize W H × (index < 4)
    go true e = absurd (omega (arith, no_size W H index e))
    go false e = (
      good_size W H e,
      elim (le_or_lt 4 index) [ inl l ↦ absurd (omega (arith, no_direction W H index e l)) | inr l ↦ l ],
    )

-- every direction of the table has paths
pub span_long : {W H : ℕ} → GoodSize W H → (index : ℕ) → index < 4 → 1 ≤ span_of W H index
span_long {W} {H} size index known =
    let framed = (frame_known W H size index known).0 in
    omega (arith, span_good size index known, framed.long, framed.bounded.some_lines)

pub record Fitting (W H : ℕ) (s : Setting) (index : ℕ) : Type 0 where
  pub size : GoodSize W H
  pub known : index < 4
  pub some : 1 ≤ s.length
  pub few : s.length ≤ 1024
  pub few_gaps : s.gaps ≤ 8
  pub long : s.length ≤ span W H (2 ^ index)

module _ (W H : ℕ) (s : Setting) (index : ℕ) where
  pub fitting : fits W H s index ≡ true → Fitting W H s index
  unfolding fits
  fitting e =
      let some = leb 1 s.length in
      let few = leb s.length max_length in
      let gaps = leb s.gaps max_gaps in
      let d = both (some && few && gaps) (leb s.length (span_of W H index)) e in
      let b = both (some && few) gaps d.0 in
      let a = both some few b.0 in
      let is_some = leb-true 1 s.length a.0 in
      let long = leb-true s.length (span_of W H index) d.1 in
      let table = span_some W H index (omega (arith, is_some, long)) in
      record {
        size = table.0;
        known = table.1;
        some = is_some;
        few = leb-true s.length 1024 a.1;
        few_gaps = leb-true s.gaps 8 b.1;
        long = rw (span_good table.0 index table.1) at long;
      }

  pub fits_if : Fitting W H s index → fits W H s index ≡ true
  unfolding fits
  fits_if f =
      rw (
        le-leb 1 s.length f.some,
        le-leb s.length max_length f.few,
        le-leb s.gaps max_gaps f.few_gaps,
        le-leb s.length (span_of W H index) (rw (span_good f.size index f.known) f.long),
      )

-- ---- the filter's door

pub record Openable (W H : ℕ) (s : Setting) (index plate result work : ℕ) : Type 0 where
  pub fitting : Fitting W H s index
  pub plate_size : plate ≡ W * H
  pub result_size : result ≡ W * H
  pub work_size : 4 * (s.gaps + 1) * (W * H) ≤ work

-- no product leaves
pub work_small : (k n : ℕ) → k ≤ 8 → n ≤ 65536 → 4 * (k + 1) * n ≤ 36 * 65536
work_small k n h l = mul-le-mul {n₁ = 4 * (k + 1)} {m₁ = n} {n₂ = 36} {m₂ = 65536} (omega arith) l

module _ (W H : ℕ) (s : Setting) (index plate result work : ℕ) where
  pub openable : opens W H s index plate result work ≡ true → Openable W H s index plate result work
  unfolding opens
  openable e =
      let fit = fits W H s index in
      let plates = eqb plate (W * H) in
      let results = eqb result (W * H) in
      let works = leb (4 * (s.gaps + 1) * (W * H)) work in
      let d = both (fit && plates && results) works e in
      let b = both (fit && plates) results d.0 in
      let a = both fit plates b.0 in
      record {
        fitting = fitting W H s index a.0;
        plate_size = eqb-true plate (W * H) a.1;
        result_size = eqb-true result (W * H) b.1;
        work_size = leb-true (4 * (s.gaps + 1) * (W * H)) work d.1;
      }

  pub opens_if : Openable W H s index plate result work → opens W H s index plate result work ≡ true
  unfolding opens
  opens_if o =
      rw (
        fits_if W H s index o.fitting,
        eq-eqb plate (W * H) o.plate_size,
        eq-eqb result (W * H) o.result_size,
        le-leb (4 * (s.gaps + 1) * (W * H)) work o.work_size,
      )

-- ---- where keys are kept

module _ (W H index : ℕ) (ranked : Bool) where
  pub keeps_if : GoodSize W H → index < 4 → (ranked ≡ true → (frame_of W H index).across ≤ (frame_of W H index).lines) → keeps W H index ranked ≡ true
  unfolding keeps
  keeps_if size known slim = rw (le-leb 1 (span_of W H index) (span_long size index known)) (go ranked slim)
    where
      go : (b : Bool) → (b ≡ true → (frame_of W H index).across ≤ (frame_of W H index).lines) →
          (not b || leb (frame_of W H index).across (frame_of W H index).lines) ≡ true
      go true h = le-leb (frame_of W H index).across (frame_of W H index).lines (h refl)
      go false h = refl

  pub record Keeping : Type 0 where
    pub size : GoodSize W H
    pub known : index < 4
    pub kept : KeptOn (frame_of W H index) ranked
    pub area : (frame_of W H index).lines * (frame_of W H index).across ≡ W * H

  slim_tested : (b : Bool) → (not b || leb (frame_of W H index).across (frame_of W H index).lines) ≡ true → b ≡ true →
      (frame_of W H index).across ≤ (frame_of W H index).lines
  slim_tested true e _ = leb-true _ _ e
  slim_tested false e h = absurd (let z : ◌≡◌ {A = ℕ} 0 1 = cc in omega arith)

  pub keeping : keeps W H index ranked ≡ true → Keeping
  unfolding keeps
  keeping e =
      let b = both (leb 1 (span_of W H index)) (not ranked || leb (frame_of W H index).across (frame_of W H index).lines) e in
      let table = span_some W H index (leb-true 1 (span_of W H index) b.0) in
      let framed = (frame_known W H table.0 index table.1).0 in
      record {
        size = table.0;
        known = table.1;
        kept = record {
          bounded = framed.bounded;
          lies = λ i x h l. omega (arith, framed.lies i x h l, framed.area);
          slim = slim_tested ranked b.1;
        };
        area = framed.area;
      }

  -- what the code has filled, by its own frame
  pub laid :
      (mode : ℕ) (plate : List ℤ) (old new : List ℕ) (r : Frame) → Keeping → r ≡ frame_of W H index →
      Between (λ (q : ℕ). keys_by mode plate (place_kept r ranked q)) old new 0 (r.lines * r.across) → SmallKept plate r ranked 0 (r.lines * r.across) →
      Laid W H index ranked mode plate old new
  laid mode plate old new r k e filled small =
      let area : r.lines * r.across ≡ W * H = rw e k.area in record { keys = rw (← e, ← area) filled; small = rw (← e, ← area) small }

  module _ (plate work : ℕ) where
    pub laying : lays W H index ranked plate work ≡ true → Keeping × (plate ≡ W * H) × (W * H ≤ work)
    unfolding lays
    laying e =
        let keep = keeps W H index ranked in
        let plates = eqb plate (W * H) in
        let b = both (keep && plates) (leb (W * H) work) e in
        let a = both keep plates b.0 in
        (keeping a.0, eqb-true plate (W * H) a.1, leb-true (W * H) work b.1)

    pub lays_if : GoodSize W H → index < 4 → (ranked ≡ true → (frame_of W H index).across ≤ (frame_of W H index).lines) → plate ≡ W * H → W * H ≤ work →
        lays W H index ranked plate work ≡ true
    unfolding lays
    lays_if size known slim is fit = rw (keeps_if size known slim, eq-eqb plate (W * H) is, le-leb (W * H) work fit)

  pub place_there : (q : ℕ) → keeps W H index ranked ≡ true → q < W * H → place_kept (frame_of W H index) ranked q ≡ place_kept_by W H index ranked q
  unfolding place_kept_by
  place_there q a b = rw (a, lt-ltb q (W * H) b)
