-- Document 02, N6: the correction that a lamp figure and a dark figure give, in whole eighths over the integers, and the checks of the call.
use Rattle.std.specs.Prelude.{ℕ, suc, ◌+◌, ◌-◌, ◌*◌, ◌/◌, Bool, ◌||◌, [], ◌∷◌, ℤ, pos, negsuc, ◌-ℤ◌, neg_ℤ}
use Rattle.plate.specs.Refusals.{Verdict, Check, row, judged}
use Rattle.plate.specs.RefusalNumbers.{refusal_figure}
use Rattle.meter.specs.Numbers.{quarters_of, bad_number}
use Rattle.meter.specs.declared.figure.Figure.{Figure}
use Rattle.meter.specs.declared.figure.Figure.TheVariants.{Steady, Drifting}
use Rattle.meter.specs.declared.Meter.{Meter}

-- a figure in eighths: a steady one has twice its quarters; the mean of two numbers has as many eighths as both have quarters
abbrev pub eighths_of : Figure → ℕ
eighths_of (Steady x) = 2 * quarters_of x
eighths_of (Drifting x y) = quarters_of x + quarters_of y

-- the dark figure less the lamp figure
abbrev pub difference_of : Meter → ℤ
difference_of m = pos (eighths_of m.dark) -ℤ pos (eighths_of m.lamp)

-- eighths to a whole level, halves away from zero: −20 eighths, which are −2.5, give −3 (`negsuc n` is −(n + 1))
abbrev pub rounded : ℤ → ℤ
rounded (pos n) = pos ((n + 4) / 8)
rounded (negsuc n) = neg_ℤ (pos ((suc n + 4) / 8))

-- the correction
abbrev pub correction_of : Meter → ℤ
correction_of m = rounded (difference_of m)

-- document 01, section 1: the 16-bit word of a correction, in two's complement; −1 is 65535
abbrev pub word_of : ℤ → ℕ
word_of (pos n) = n
word_of (negsuc n) = 65535 - n

-- ---- the call

-- one of a figure's numbers may not be reported
abbrev pub bad_figure : Figure → Bool
bad_figure (Steady x) = bad_number x
bad_figure (Drifting x y) = bad_number x || bad_number y

abbrev pub figure_check : Figure → Check
figure_check f = row refusal_figure (bad_figure f) 0

-- 19, for the lamp figure first; accepted, the call gives the word
unfoldable pub meter_verdict : Meter → Verdict ℕ
meter_verdict m = judged (figure_check m.lamp ∷ figure_check m.dark ∷ []) (word_of (correction_of m))
