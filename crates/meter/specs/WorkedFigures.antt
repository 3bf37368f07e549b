-- Worked figures of document 02, N6, by the floats' bit patterns: what the meter answers for a lamp figure and a dark figure.
-- proofs/WorkedFigures.antt shows that the definitions give these.
use Rattle.std.specs.Prelude.{ℕ, Bool, true, false, ◌&&◌, List, [], ◌∷◌, ◌==◌, from_bits}
use Rattle.std.specs.Float.{binary32}
use Rattle.plate.specs.Refusals.{Verdict, Verdict.accepted, Verdict.refused}
use Rattle.plate.specs.RefusalNumbers.{refusal_figure}
use Rattle.meter.specs.Corrections.{meter_verdict}
use Rattle.meter.specs.declared.figure.Figure.{Figure}
use Rattle.meter.specs.declared.figure.Figure.TheVariants.{Steady, Drifting}

abbrev steady : ℕ → Figure
steady bits = Steady (from_bits binary32 bits)

abbrev drifting : ℕ → ℕ → Figure
drifting bits bits' = Drifting (from_bits binary32 bits) (from_bits binary32 bits')

pub record Worked : Type 0 where
  pub lamp : Figure
  pub dark : Figure
  pub verdict : Verdict ℕ

abbrev gives : Figure → Figure → ℕ → Worked
gives lamp dark word = record { lamp = lamp; dark = dark; verdict = accepted word }

abbrev refuses : Figure → Figure → Worked
refuses lamp dark = record { lamp = lamp; dark = dark; verdict = refused refusal_figure 0 }

-- ---- the test

unfoldable pub same_verdict : Verdict ℕ → Verdict ℕ → Bool
same_verdict (accepted w) (accepted w') = w == w'
same_verdict (refused number place) (refused number' place') = number == number' && place == place'
same_verdict (accepted w) (refused number place) = false
same_verdict (refused number place) (accepted w) = false

unfoldable pub all_work : List Worked → Bool
all_work [] = true
all_work (w ∷ ws) = same_verdict (meter_verdict (record { lamp = w.lamp; dark = w.dark })) w.verdict && all_work ws

-- ---- the figures

abbrev zero : Figure
zero = steady 0

unfoldable pub worked_figures : List Worked
worked_figures =
    gives (steady 0x40200000) zero 65533  -- 2.5; 0
    ∷ gives zero (steady 0x40200000) 3  -- 0; 2.5
    ∷ gives (drifting 0x41200000 0x41240000) (steady 0x40f00000) 65533  -- 10 and 10.25; 7.5: −2.625
    ∷ gives (drifting 0x3e800000 0x3f000000) zero 0  -- 0.25 and 0.5; 0: −0.375
    ∷ gives (steady 0x3e800000) zero 0  -- 0.25; 0: −0.25
    ∷ gives (steady 0x3f000000) zero 65535  -- 0.5; 0
    ∷ gives (steady 0x46000000) zero 57344  -- 8192; 0
    ∷ gives zero (drifting 0x46000000 0x46000000) 8192  -- 0; 8192 and 8192
    ∷ gives (steady 0x80000000) (drifting 0x80000000 0x80000000) 0  -- −0; −0 and −0
    ∷ refuses (steady 0x3e000000) zero  -- 0.125
    ∷ refuses (drifting 0x3e000000 0x3e000000) zero  -- 0.125 and 0.125, whose mean is a count of eighths
    ∷ refuses zero (steady 0x46000100)  -- 8192.25
    ∷ refuses (steady 0xbe800000) zero  -- −0.25
    ∷ refuses zero (drifting 0 0x7fc00000)  -- a NaN
    ∷ refuses zero (steady 0x7f800000)  -- infinity
    ∷ refuses (drifting 0xff800000 0) zero  -- minus infinity
    ∷ refuses (steady 1) zero  -- the least subnormal number
    ∷ refuses zero (drifting 0 0x80000001)  -- the same below zero
    ∷ []
