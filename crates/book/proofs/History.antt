-- For every list of calls from an empty book: what stands for a key, how many stand, and the serial numbers that were given. The invariant of one call
-- more is `Steady`; books that real calls handed on go by the same two laws.
use Prim.Native.Nat.{ℕ, ◌+◌, ◌≤◌}
use mathlib.Core.Path.{◌≡◌, refl, sym, subst}
use mathlib.Core.Bool.{not}
use mathlib.Core.List.{List, [], ◌∷◌, ◌++◌}
use native.Mathlib.Numerals.{add-one}
use native.Mathlib.Omega.{arith}
use lib.ListN.{length-append}
use lib.Seq.{take-append_seam}
use lib.IntN.{ℤ}
use borrow.Author.Tests.{ltb-false}
use Rattle.basics.proofs.Keeping.{keep_shorter}
use Rattle.plate.specs.Refusals.{Verdict, Verdict.accepted, Verdict.refused, Clear}
use Rattle.plate.proofs.Verdicts.{accepted_clear}
use Rattle.book.specs.Entries.{max_entries, is_meant, others, entry_of, standing, book_of}
use Rattle.book.specs.Refusals.{entry_checks, entered, enter_verdict, withdraw_checks, withdrawn, withdraw_verdict, handed_back}
use Rattle.book.specs.History.{Call, Call.enter, Call.withdraw, Event, Event.entering, Event.withdrawing, events_after, Lived, step, run, unused, serials_given, down_from, Accounted}
use Rattle.book.specs.declared.entry.Key.{Key}
use Rattle.book.specs.declared.entry.Entry.{Entry}
use Rattle.book.specs.declared.target.Target.TheVariants.{OfKey, OfSerial}
use Rattle.book.specs.declared.Book.{Book}
use Rattle.book.proofs.Deciding.{shown_at_most, slot_left}
use Rattle.book.proofs.Standing.{Agree, agree_nothing, after_withdrawal, after_entry, agree_alone}

-- ---- what every call keeps up

pub record Steady (b : Book) (events : List Event) : Type 0 where
  pub agree : Agree (standing b) events
  pub few : b.count ≤ max_entries
  pub counted : serials_given events ≡ down_from b.last

-- what stands in a book of these entries
made_standing : (last : ℕ) (entries : List Entry) → entries ≡ standing (book_of last entries)
made_standing last entries = sym (take-append_seam entries _)

pub steady_new : Steady (book_of 0 []) []
unfolding serials_given down_from
steady_new = record { agree = agree_nothing; few = omega arith; counted = refl }

next_counted : (n : ℕ) → ((n + 1) ∷ down_from n) ≡ down_from (n + 1)
unfolding down_from
next_counted n = rw (add-one n)

module _ (b : Book) (events : List Event) (steady : Steady b events) where
  pub steady_entered : (key : Key) (level : ℤ) (direction : ℕ) → Clear (entry_checks b key) → Steady (entered b key level direction) (entering (entry_of (b.last + 1) key level direction) ∷ events)
  unfolding serials_given
  steady_entered key level direction clear =
      let new : Entry = entry_of (b.last + 1) key level direction in
      let entries : List Entry = others (OfKey key) (standing b) ++ (new ∷ []) in
      record {
        agree = subst (λ (xs : List Entry). Agree xs (entering new ∷ events)) (made_standing (b.last + 1) entries) (after_entry (b.last + 1) key level direction (standing b) events steady.agree);
        few = rw (length-append (others (OfKey key) (standing b)) (new ∷ [])) (omega (arith, slot_left b key clear));
        counted = rw steady.counted (next_counted b.last);
      }

  pub steady_withdrawn : (serial : ℕ) → Clear (withdraw_checks b serial) → Steady (withdrawn b serial) (withdrawing serial ∷ events)
  unfolding serials_given
  steady_withdrawn serial clear =
      let entries : List Entry = others (OfSerial serial) (standing b) in
      record {
        agree = subst (λ (xs : List Entry). Agree xs (withdrawing serial ∷ events)) (made_standing b.last entries) (after_withdrawal serial (standing b) events steady.agree);
        few = omega (arith, keep_shorter (λ (x : Entry). not (is_meant (OfSerial serial) x)) (standing b), shown_at_most b, ltb-false max_entries b.count clear.0);
        counted = steady.counted;
      }

-- the promise
pub accounted : (b : Book) (events : List Event) → Steady b events → Accounted b events
accounted b events steady =
    record { alone = agree_alone (standing b) events steady.agree; few = steady.few; counted = steady.counted }

-- ---- every list of calls

-- a refused call changes nothing, so only an accepted one is looked at
after_call : (b : Book) (events : List Event) → Steady b events → (event : Event) (v : Verdict Book) → ((b' : Book) → v ≡ accepted b' → Steady b' (event ∷ events)) →
    Steady (handed_back v b).book (events_after v event events)
after_call b events steady event (accepted b') h = h b' refl
after_call b events steady event (refused number place) h = steady

pub after_withdrawing : (b : Book) (events : List Event) → Steady b events → (serial : ℕ) →
    Steady (handed_back (withdraw_verdict b serial) b).book (events_after (withdraw_verdict b serial) (withdrawing serial) events)
unfolding withdraw_verdict
after_withdrawing b events steady serial =
    after_call b events steady (withdrawing serial) (withdraw_verdict b serial)
    (λ b' e.
    let passed = accepted_clear (withdraw_checks b serial) (withdrawn b serial) b' e in
    subst (λ (x : Book). Steady x (withdrawing serial ∷ events)) passed.0 (steady_withdrawn b events steady serial passed.1))

steady_step : (l : Lived) (call : Call) → Steady l.book l.events → Steady (step l call).book (step l call).events
unfolding enter_verdict
steady_step l (withdraw serial) steady = after_withdrawing l.book l.events steady serial
steady_step l (enter key level direction) steady =
    let new : Event = entering (entry_of (l.book.last + 1) key level direction) in
    after_call l.book l.events steady new (enter_verdict l.book key level direction)
    (λ b e.
    let passed = accepted_clear (entry_checks l.book key) (entered l.book key level direction) b e in
    subst (λ (x : Book). Steady x (new ∷ l.events)) passed.0 (steady_entered l.book l.events steady key level direction passed.1))

steady_run : (l : Lived) (calls : List Call) → Steady l.book l.events → Steady (run l calls).book (run l calls).events
unfolding run
steady_run l [] steady = steady
steady_run l (call ∷ calls) steady = steady_run (step l call) calls (steady_step l call steady)

-- from an empty book every list of calls is accounted for
pub every_history : (calls : List Call) → Accounted (run unused calls).book (run unused calls).events
every_history calls = accounted _ _ (steady_run unused calls steady_new)
