use Prim.Native.Nat.{ℕ, ◌+◌, ◌<◌}
use mathlib.Core.Path.{◌≡◌}
use lib.ListN.{get_or}
use Rattle.eights.specs.Turned.{turned, numbers}
use Rattle.states.specs.Rows.{Blent, layer_ahead}
use Rattle.states.proofs.blends.blend_eight.Given as goal

abbrev pub invariant-loop-j : goal.invariant-loop-j
invariant-loop-j l =
    ((i : ℕ) → i < 8 → turned (get_or l.below i 0) ≡ layer_ahead (numbers l.initial.held) l.pitch l.taps.t0 l.taps.t1 l.taps.t2 l.j (l.x + i))
    × ((keys : ℕ → ℕ) → ((i : ℕ) → i < 8 → turned (get_or l.key i 0) ≡ keys (l.x + i)) →
    Blent (numbers l.initial.held) (numbers l.held) keys l.j l.pitch l.taps.t0 l.taps.t1 l.taps.t2 l.taps.to l.x (l.x + 8))
