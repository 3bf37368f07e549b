-- Which check decides: a bad number of the lamp figure, else one of the dark figure; else the call gives the word.
use Rattle.std.proofs.Common.{◌≡◌, true, false}
use Rattle.plate.specs.Refusals.{Verdict.accepted, Verdict.refused, judged}
use Rattle.plate.specs.RefusalNumbers.{refusal_figure}
use Rattle.meter.specs.Corrections.{bad_figure, word_of, correction_of, meter_verdict}
use Rattle.meter.specs.declared.Meter.{Meter}

pub lamp_refused : (m : Meter) → bad_figure m.lamp ≡ true → refused refusal_figure 0 ≡ meter_verdict m
unfolding meter_verdict judged
lamp_refused m l = rw l

pub dark_refused : (m : Meter) → bad_figure m.lamp ≡ false → bad_figure m.dark ≡ true → refused refusal_figure 0 ≡ meter_verdict m
unfolding meter_verdict judged
dark_refused m l d = rw (l, d)

pub both_accepted : (m : Meter) → bad_figure m.lamp ≡ false → bad_figure m.dark ≡ false → accepted (word_of (correction_of m)) ≡ meter_verdict m
unfolding meter_verdict judged
both_accepted m l d = rw (l, d)
