-- Sieving twice, of calls (document 02, N2): two accepted calls of `filter`, of equal k, directions and mode and with `ends` 0, the second handed what
-- the first has left, fill the result as one call by the larger length does. Nothing but the contract is used: what an accepted call leaves is the filtered plate, and
-- check 3 has let its setting through, so k is below its length.
use Prim.Native.Nat.{ℕ, ◌<◌, max}
use mathlib.Core.Path.{◌≡◌, ap, ◌∙◌}
use mathlib.Core.List.{List}
use lib.ListN.{length}
use lib.IntN.{ℤ}
use Rattle.std.proofs.Common.{Ok}
use Rattle.plate.specs.declared.setting.Setting.{Setting}
use Rattle.plate.proofs.Calls.{filter_gaps_below}
use Rattle.theory.specs.Modes.{Levels}
use Rattle.theory.specs.SievingTwice.{with_length, filtered_by}
use Rattle.theory.proofs.SievingTwice.{sieved_twice}
use Rattle.engine.specs.SievingTwice.{FilterCall}

module _ (s : Setting) (free : s.ends ≡ 0) (W H : ℕ) where
  done_below : {L : ℕ} {plate old filled : List ℤ} → FilterCall W H (with_length s L) plate (Ok tt) old filled → s.gaps < L
  done_below {L} {plate} {old} c = filter_gaps_below W H (with_length s L) (length plate) (length old) (length c.work) c.answers

  -- by K and then by L, whichever is larger
  pub two_calls :
      {K L : ℕ} {plate between filled old old' : List ℤ} → Levels plate → FilterCall W H (with_length s K) plate (Ok tt) old between →
      FilterCall W H (with_length s L) between (Ok tt) old' filled → filled ≡ filtered_by s W H (max K L) plate
  two_calls {K} {L} {plate} levels first second =
      second.fills
      ∙ ap (filtered_by s W H L) first.fills
      ∙ (sieved_twice s W H K L plate levels (record { below_K = done_below first; below_L = done_below second; free_ends = free })).K_then_L
