-- Every book that real calls handed on is accounted for: each call keeps up what every call of the definitions does.
use mathlib.Core.Path.{sym, subst}
use mathlib.Core.List.{List, []}
use Rattle.std.proofs.Common.{Result, Ok, Err}
use Rattle.plate.specs.declared.setting.Setting.{Setting}
use Rattle.plate.specs.declared.answer.Trace.{Trace}
use Rattle.plate.specs.declared.refusal.Refusal.{Refusal}
use Rattle.book.specs.Refusals.{withdraw_verdict}
use Rattle.book.specs.History.{Event, Event.withdrawing, events_after, Accounted}
use Rattle.book.specs.declared.Book.{Book}
use Rattle.book.specs.declared.Kept.{Kept}
use Rattle.book.proofs.History.{Steady, steady_new, steady_entered, after_withdrawing, accounted}
use Rattle.entering.specs.Refusals.{key_of}
use Rattle.entering.specs.History.{EnterCall, events_entered, HandedOn, HandedOn.new, HandedOn.enter, HandedOn.withdraw}
use Rattle.entering.specs.declared.pixel.Pixel.{Pixel}
use Rattle.entering.proofs.Deciding.{level_takes}

module _ (b : Book) (events : List Event) (steady : Steady b events) where
  after_entering : (s : Setting) (pixel : Pixel) (traced : Result Trace Refusal) (b' : Book) → EnterCall s pixel b traced b' → Steady b' (events_entered traced b (key_of s pixel) events)
  after_entering s pixel (Ok trace) b' call =
      subst (λ (x : Book). Steady x (events_entered (Ok trace) b (key_of s pixel) events)) (sym call.hands_back)
      (steady_entered b events steady (key_of s pixel) trace.level trace.direction (level_takes call.W call.H s call.plate pixel b call.path call.work trace.level call.answers))
  after_entering s pixel (Err r) b' call = subst (λ (x : Book). Steady x events) (sym call.hands_back) steady

handed_on_steady : {b : Book} {events : List Event} → HandedOn b events → Steady b events
handed_on_steady (new e) = subst (λ (x : Book). Steady x []) (sym e) steady_new
handed_on_steady (enter {b} {b'} {events} {s} {pixel} {traced} earlier call) = after_entering b events (handed_on_steady earlier) s pixel traced b' call
handed_on_steady (withdraw {b} {events} {r} serial earlier e) =
    subst (λ (k : Kept). Steady k.book (events_after (withdraw_verdict b serial) (withdrawing serial) events)) (sym e)
    (after_withdrawing b events (handed_on_steady earlier) serial)

-- what stands for a key is its last accepted entry alone, or nothing once that is withdrawn; and the serial numbers given are 1, 2, 3 and on
pub handed_on : {b : Book} {events : List Event} → HandedOn b events → Accounted b events
handed_on {b} {events} calls = accounted b events (handed_on_steady calls)
