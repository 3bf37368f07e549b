use Prim.Native.Nat.{ℕ, ◌*◌}
use Rattle.states.specs.Runs.{Between}
use Rattle.directions.specs.Numbers.{place_kept, keys_by, SmallKept}
use Rattle.directions.proofs.keys.fill_keys.Given as goal

abbrev pub invariant-loop-row : goal.invariant-loop-row
invariant-loop-row l =
    let at = l.row * l.kept.frame.across in
    Between (λ (q : ℕ). keys_by l.mode l.plate (place_kept l.kept.frame l.kept.ranked q)) l.initial.work l.work 0 at
    × SmallKept l.plate l.kept.frame l.kept.ranked 0 at
