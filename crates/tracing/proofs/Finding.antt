-- The best path over all usable directions: what one direction after the other finds, by the setting instead of by a scan.
use Prim.Native.Nat.{ℕ, ◌+◌, ◌-◌, ◌*◌, ◌^◌, ◌≤◌, ◌<◌}
use mathlib.Core.Path.{◌≡◌, sym, ap, ◌∙◌}
use mathlib.Core.Bool.{true, false, true≢false}
use mathlib.Core.List.{List}
use mathlib.Core.Logic.{⊎_elim}
use native.Mathlib.Omega.{arith}
use lib.IntN.{ℤ}
use Rattle.basics.proofs.Numbers.{le_or_lt}
use Rattle.plate.specs.Opening.{level_at}
use Rattle.plate.specs.Paths.{span}
use Rattle.plate.specs.declared.setting.Setting.{Setting}
use Rattle.engine.specs.Finishing.{Accepted}
use Rattle.frames.specs.Keys.{key_by}
use Rattle.tracing.specs.Scans.{ScanOf, bit_of, key_of}
use Rattle.tracing.proofs.Scanned.{Sound}
use Rattle.tracing.specs.declared.scan.Scan.{Scan}
use Rattle.std.specs.Prelude.{Some}
use Rattle.headings.specs.Usable.{usable, FirstUsable}
use Rattle.headings.proofs.Directions.{usable_listed}
use Rattle.tracing.specs.Finding.{Attained, FoundIn, FoundAt, BestOf, keys_by}
use Rattle.tracing.specs.Drawing.{Drawn}
use Rattle.theory.specs.BestWalks.{gap_end}
use Rattle.walks.specs.declared.found.Found.{Found}

-- the work buffer keeps its size
pub accepted_still : (W H : ℕ) (s : Setting) (plate result work work₁ : ℕ) → work₁ ≡ work → Accepted W H s plate result work → Accepted W H s plate result work₁
accepted_still W H s plate result work work₁ e a = rw e a

-- ---- a scan is that of its direction

module _ (r : Scan) (W H : ℕ) (s : Setting) (index : ℕ) (sound : Sound r) (of : ScanOf r W H s index) (long : 1 ≤ s.length) where
  pub scan_keys : (f : List ℤ) → key_of r f ≡ keys_by s.mode f
  unfolding key_of keys_by
  scan_keys f = let by : Setting → ℕ → ℕ = λ c p. key_by c.mode (level_at f p) in ap by of.is_setting

  pub scan_pixels : r.width * r.height ≡ W * H
  scan_pixels = rw (of.is_width, of.is_height)

  pub scan_room : (work : ℕ) → 4 * (s.gaps + 1) * (W * H) ≤ work → 4 * (r.setting.gaps + 1) * (r.width * r.height) ≤ work
  scan_room work h = rw (scan_pixels, of.is_setting) h

  pub scan_spare : r.spare ≡ span W H (2 ^ index) - s.length
  scan_spare =
      let e : span W H (2 ^ index) ≡ r.steps + r.spare + 1 = rw (of.is_width, of.is_height, of.is_index) at sound.long in
      omega (arith, of.is_steps)

  pub scan_found :
      (f : List ℤ) (x : ℕ) (old new : Found) → FoundIn r.slack r.width r.height r.steps r.setting.gaps r.spare (key_of r f) x r.index old new →
      FoundAt W H s f x index old new
  scan_found f x old new d =
      rw (scan_keys f, scan_spare, of.is_width, of.is_height, of.is_steps, of.is_slack, of.is_setting, of.is_index) at d

  pub scan_attained :
      (f : List ℤ) (x t before gaps : ℕ) → Attained (gap_end s.ends) W H (s.length - 1) s.gaps (span W H (2 ^ index) - s.length) (keys_by s.mode f) x (2 ^ index) t before gaps →
      Attained r.slack r.width r.height r.steps r.setting.gaps r.spare (key_of r f) x (bit_of r) t before gaps
  scan_attained f x t before gaps a =
      rw (scan_keys f, scan_spare, of.is_width, of.is_height, of.is_steps, of.is_slack, of.is_setting, of.is_index) a

  pub scan_drawn :
      (f : List ℤ) (x t : ℕ) (path : List ℕ) → Drawn r.slack r.width r.height (bit_of r) (key_of r f) t r.steps r.setting.gaps x path →
      Drawn (gap_end s.ends) W H (2 ^ index) (keys_by s.mode f) t (s.length - 1) s.gaps x path
  scan_drawn f x t path d = rw (scan_keys f, of.is_width, of.is_height, of.is_steps, of.is_slack, of.is_setting, of.is_index) at d

-- ---- one direction after the other

module _ (W H : ℕ) (s : Setting) (f : List ℤ) (x : ℕ) where
  -- before the first usable direction nothing is to be found
  pub best_first :
      (first : ℕ) (old new : Found) → FirstUsable W H s (Some first) → old.index ≡ first →
      Attained (gap_end s.ends) W H (s.length - 1) s.gaps (span W H (2 ^ first) - s.length) (keys_by s.mode f) x (2 ^ first) old.key old.before old.gaps →
      FoundAt W H s f x first old new → BestOf W H s f x (first + 1) new
  best_first first old new u e a d =
      let l = usable_listed W H s first u.passes in
      record {
        listed = ⊎_elim (λ n. rw n (rw e l)) (λ n. rw n.0 l) d.source;
        is_usable = ⊎_elim (λ n. rw n (rw e u.passes)) (λ n. rw n.0 u.passes) d.source;
        attained = ⊎_elim (λ n. rw n (rw e a)) (λ n. rw n.0 n.1) d.source;
        best = λ i h p m k. ⊎_elim (λ c. let same : i ≡ first = omega arith in rw same (d.best m k)) (λ c. absurd (u.none i c p)) (le_or_lt first i);
      }

  pub best_more :
      (index : ℕ) (old new : Found) → index < 4 → usable W H s index ≡ true → BestOf W H s f x index old → FoundAt W H s f x index old new →
      BestOf W H s f x (index + 1) new
  best_more index old new l u b d =
      record {
        listed = ⊎_elim (λ n. rw n b.listed) (λ n. rw n.0 l) d.source;
        is_usable = ⊎_elim (λ n. rw n b.is_usable) (λ n. rw n.0 u) d.source;
        attained = ⊎_elim (λ n. rw n b.attained) (λ n. rw n.0 n.1) d.source;
        best = λ i h p m k a c.
            ⊎_elim (λ q. let same : i ≡ index = omega arith in rw same (d.best m k a c)) (λ q. omega (arith, b.best i q p m k a c, d.not_below)) (le_or_lt index i);
      }

  -- a direction that is not usable
  pub best_skip : (index : ℕ) (old : Found) → usable W H s index ≡ false → BestOf W H s f x index old → BestOf W H s f x (index + 1) old
  best_skip index old n b =
      record {
        listed = b.listed;
        is_usable = b.is_usable;
        attained = b.attained;
        best = λ i h p m k a c.
            ⊎_elim (λ q. let same : i ≡ index = omega arith in absurd (true≢false (sym (rw same at p) ∙ n))) (λ q. b.best i q p m k a c) (le_or_lt index i);
      }
