-- The gathered and finished plate is the filtered one. The keys by the mode are the keys of the turned plate, whose opened key is the value of the
-- decomposition; the level of that key, turned back, is the filtered level.
use Prim.Native.Nat.{ℕ, suc, ◌-◌, ◌*◌, ◌≤◌, ◌<◌, min}
use mathlib.Core.Path.{◌≡◌, refl, sym, ap, ◌∙◌}
use mathlib.Core.List.{List, map}
use mathlib.Core.Logic.{⊎_elim}
use native.Mathlib.Omega.{arith}
use lib.Dec.{eqb}
use lib.ListN.{length}
use lib.Seq.{ext_get_or}
use lib.IntN.{ℤ}
use lib.Signed.{mag}
use Rattle.basics.proofs.Tests.{true_or_false}
use Rattle.basics.proofs.Lists.{map_at}
use Rattle.plate.specs.Levels.{lowest, level, key}
use Rattle.plate.specs.Directions.{chosen}
use Rattle.plate.specs.Opening.{level_at, opened_at, filtered}
use Rattle.plate.specs.declared.setting.Setting.{Setting}
use Rattle.theory.proofs.Decomposition.{opened_value}
use Rattle.theory.proofs.Terms.{value_same}
use Rattle.theory.proofs.Opening.{levels_within}
use Rattle.theory.proofs.Mirror.{turned_levels, filtered_length, level_at_filtered}
use Rattle.frames.specs.Keys.{key_by, level_by}
use Rattle.engine.specs.Finishing.{best_of_all, Blank, Gathered, Finished}
use Rattle.theory.specs.BestWalks.{key_at, gap_end, value}
use Rattle.theory.specs.Modes.{Levels, as_mode}

-- the key by the mode is the key of a turned level, and the level by the mode a turned level
turned_key : (s : Setting) (v : ℤ) → key (as_mode s v) ≡ key_by s.mode v
unfolding as_mode key_by
turned_key s v = ⊎_elim (λ e. rw e) (λ e. rw e) (true_or_false (eqb s.mode 0))

turned_level : (s : Setting) (k : ℕ) → as_mode s (level k) ≡ level_by s.mode k
unfolding as_mode level_by
turned_level s k = ⊎_elim (λ e. rw e) (λ e. rw e) (true_or_false (eqb s.mode 0))

module _ (s : Setting) (W H : ℕ) (plate : List ℤ) (sized : length plate ≡ W * H) (small : (x : ℕ) → x < length plate → mag (level_at plate x) < 32768) where
  levels : Levels plate
  levels = levels_within plate small

  abbrev g : ℕ → ℕ
  g p = key_by s.mode (level_at plate p)

  abbrev turned_plate : List ℤ
  turned_plate = map (as_mode s) plate

  -- the opened key of the turned plate
  abbrev value_at : ℕ → ℕ
  value_at x = value (gap_end s.ends) W H (chosen s.directions) (s.length - 1) s.gaps g x

  same_keys : (p : ℕ) → p < W * H → key_at turned_plate p ≡ g p
  same_keys p on =
      ap key (map_at (as_mode s) plate p lowest lowest (omega arith)) ∙ turned_key s (level_at plate p)

  opened_key : (x : ℕ) → x < W * H → 1 ≤ s.length → opened_at s W H turned_plate x ≡ level (value_at x)
  opened_key x on long =
      opened_value turned_plate (turned_levels s plate levels).size s W H (s.length - 1) x on (let e : s.length ≡ suc (s.length - 1) = omega arith in e)
      ∙ ap level (value_same (gap_end s.ends) W H (chosen s.directions) (s.length - 1) s.gaps x on (key_at turned_plate) g same_keys)

  filtered_level_lem : (x : ℕ) → x < W * H → 1 ≤ s.length → level_at (filtered s W H plate) x ≡ level_by s.mode (value_at x)
  filtered_level_lem x on long =
      level_at_filtered s W H plate x on ∙ ap (as_mode s) (opened_key x on long) ∙ turned_level s (value_at x)

  value_gathered : (x : ℕ) → value_at x ≡ min (g x) (best_of_all W H s plate x)
  unfolding value best_of_all
  value_gathered x = refl

module _ (s : Setting) (W H : ℕ) (plate old none all new : List ℤ) (sized : length plate ≡ W * H) (room : length old ≡ W * H) (long : 1 ≤ s.length)
    (blank : Blank old none) (raised : Gathered s.mode plate (best_of_all W H s plate) none all (W * H)) (finished : Finished s.mode plate all new) where
  gathered : (x : ℕ) → x < W * H → min (key_by s.mode (level_at plate x)) (key_at all x) ≡ min (key_by s.mode (level_at plate x)) (best_of_all W H s plate x)
  gathered x on = omega (arith, raised.is x on, blank.lowest x)

  level_is : (x : ℕ) → x < W * H → level_at new x ≡ level_at (filtered s W H plate) x
  level_is x on =
      finished.is x (omega arith)
      ∙ rw (gathered x on) (sym (filtered_level_lem s W H plate sized finished.small x on long ∙ ap (level_by s.mode) (value_gathered s W H plate sized finished.small x)))

  size_is : length new ≡ W * H
  size_is = finished.len ∙ raised.len ∙ blank.len ∙ room

  pub all_filtered : new ≡ filtered s W H plate
  all_filtered =
      ext_get_or lowest new (filtered s W H plate) (size_is ∙ sym (filtered_length s W H plate)) (λ x h. level_is x (omega (arith, size_is)))
