use Rattle.headings.proofs.Ahead.{OnTrail}
use Rattle.headings.proofs.onward.follow_any.Given as goal

abbrev pub invariant-loop-n : goal.invariant-loop-n
invariant-loop-n l = OnTrail l.heading l.initial.path l.start l.steps l.path l.place l.n
