use mathlib.Core.Path.{◌≡◌}
use lib.ListN.{length, get_or}
use Rattle.tracing.specs.Scans.{bit_of, key_of}
use Rattle.tracing.specs.Following.{Stands, Kept}
use Rattle.tracing.proofs.Inward.{Inward}
use Rattle.tracing.proofs.Nearing.{place_of}
use Rattle.tracing.proofs.follow.walk_in.Given as goal

abbrev pub invariant-loop-n : goal.invariant-loop-n
invariant-loop-n l =
    (length l.work ≡ length l.initial.work)
    × (length l.marks ≡ length l.initial.marks)
    × (length l.held ≡ length l.initial.held)
    × Kept l.scan l.walk.backwards l.plate (get_or l.initial.path l.walk.start 0) l.end.sight l.work l.marks l.stack
    × Stands l.scan l.walk.backwards l.plate (get_or l.initial.path l.walk.start 0) l.end.sight l.walk.key l.n l.stand
    × Inward l.scan.slack l.scan.width l.scan.height (bit_of l.scan) l.walk.backwards (key_of l.scan l.plate) l.walk.key l.initial.path l.walk.start
    l.walk.steps l.walk.gaps l.path l.n (place_of l.end.sight l.stand) l.stand.gaps
