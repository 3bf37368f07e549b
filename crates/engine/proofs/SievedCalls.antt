-- What follows from two accepted calls being one (`two_calls`): a third call by the larger length leaves the same, and a refused second call leaves its
-- result as it was.
use Prim.Native.Nat.{ℕ, max}
use mathlib.Core.Path.{◌≡◌, sym, ◌∙◌}
use mathlib.Core.List.{List}
use lib.IntN.{ℤ}
use Rattle.std.proofs.Common.{Result, Ok, Err}
use Rattle.plate.specs.Answers.{result_after}
use Rattle.plate.specs.declared.setting.Setting.{Setting}
use Rattle.plate.specs.declared.refusal.Refusal.{Refusal}
use Rattle.theory.specs.Modes.{Levels}
use Rattle.theory.specs.SievingTwice.{with_length, filtered_by}
use Rattle.engine.specs.SievingTwice.{FilterCall}
use Rattle.engine.proofs.SievingTwice.{two_calls}

module _ (s : Setting) (free : s.ends ≡ 0) (W H : ℕ) where
  -- so one call by the larger length, where it is accepted, leaves the same
  pub as_one_call :
      {K L : ℕ} {plate between filled once old old' old'' : List ℤ} → Levels plate → FilterCall W H (with_length s K) plate (Ok tt) old between →
      FilterCall W H (with_length s L) between (Ok tt) old' filled → FilterCall W H (with_length s (max K L)) plate (Ok tt) old'' once → filled ≡ once
  as_one_call levels first second one = two_calls s free W H levels first second ∙ sym one.fills

  -- and with whatever the second call answers: refused, it leaves its result as it was
  pub second_call :
      {K L : ℕ} {plate between filled old old' : List ℤ} → Levels plate → FilterCall W H (with_length s K) plate (Ok tt) old between →
      (answer : Result Unit Refusal) → FilterCall W H (with_length s L) between answer old' filled →
      filled ≡ result_after answer (filtered_by s W H (max K L) plate) old'
  second_call levels first (Ok u) second = two_calls s free W H levels first second
  second_call levels first (Err r) second = second.fills
