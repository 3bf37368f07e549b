-- Taking entries out of a book: those that stay move up, in their order, into slots that are empty.
use Prim.Native.Nat.{ℕ, suc, ◌+◌, ◌-◌, ◌≤◌, ◌<◌}
use mathlib.Core.Path.{◌≡◌, sym, ap, ◌∙◌}
use mathlib.Core.Bool.{true, false, not}
use mathlib.Core.List.{List, [], ◌∷◌, ◌++◌}
use native.Mathlib.Omega.{arith}
use lib.ListN.{length, take, get_or, set, replicate, length-append}
use lib.Seq.{append_snoc, set-append_seam, length-take-le}
use Rattle.std.proofs.lemmas.List.{take_all}
use Rattle.basics.specs.Lists.{keep}
use Rattle.basics.proofs.Keeping.{kept_one, dropped_one, keep_shorter}
use Rattle.book.specs.Entries.{max_entries, is_meant, others, empty_slot, book_of}
use Rattle.book.specs.declared.entry.Entry.{Entry}
use Rattle.book.specs.declared.target.Target.{Target}
use Rattle.book.specs.declared.Book.{Book}

-- ---- the slots of a book

abbrev pub slots_of : List Entry → List Entry
slots_of entries = entries ++ replicate (max_entries - length entries) empty_slot

-- an entry stored in the first empty slot
pub stored : (entries : List Entry) (e : Entry) → length entries < max_entries → set (slots_of entries) (length entries) e ≡ slots_of (entries ++ (e ∷ []))
stored entries e room =
    let m : ℕ = max_entries - suc (length entries) in
    let before : max_entries - length entries ≡ suc m = omega arith in
    let after : max_entries - length (entries ++ (e ∷ [])) ≡ m = rw (length-append entries (e ∷ [])) (omega arith) in
    rw (before, after) (set-append_seam entries empty_slot (replicate m empty_slot) e ∙ sym (append_snoc entries e (replicate m empty_slot)))

-- ---- the loop

module _ (target : Target) (entries : List Entry) where
  -- those of the first i that stay
  abbrev left_of : ℕ → List Entry
  left_of i = others target (take i entries)

  -- after i entries the slots hold those of them that stay
  pub record MovedUp (book : Book) (i : ℕ) : Type 0 where
    pub within : i ≤ length entries
    pub count : book.count ≡ length (left_of i)
    pub slots : book.entries ≡ slots_of (left_of i)

  -- no more are left than were looked at
  few : (i : ℕ) → i ≤ length entries → length (left_of i) ≤ i
  few i h = omega (arith, keep_shorter (λ (e : Entry). not (is_meant target e)) (take i entries), length-take-le i entries h)

  pub start : (book : Book) → book ≡ book_of 0 [] → MovedUp book 0
  unfolding keep
  start book e = record { within = omega arith; count = ap (λ (b : Book). b.count) e; slots = ap (λ (b : Book). b.entries) e }

  module _ (shown : length entries ≤ max_entries) (book : Book) (i : ℕ) (so_far : MovedUp book i) (more : i < length entries) where
    pub has_room : book.count < max_entries
    has_room = omega (arith, so_far.count, few i (omega arith))

    pub stays : (d : Entry) → is_meant target (get_or entries i d) ≡ false →
        MovedUp (record { last = book.last; count = book.count + 1; entries = set book.entries book.count (get_or entries i d) }) (i + 1)
    stays d e =
        let kept = kept_one (λ (x : Entry). not (is_meant target x)) entries i d (omega arith) (ap not e) in
        record {
          within = omega arith;
          count = rw (kept, length-append (left_of i) (get_or entries i d ∷ [])) (omega (arith, so_far.count));
          slots = rw (kept, so_far.slots, so_far.count) (stored (left_of i) (get_or entries i d) (omega (arith, has_room, so_far.count)));
        }

    pub goes : (d : Entry) → is_meant target (get_or entries i d) ≡ true → MovedUp book (i + 1)
    goes d e =
        let dropped = dropped_one (λ (x : Entry). not (is_meant target x)) entries i d (omega arith) (ap not e) in
        record { within = omega arith; count = so_far.count ∙ sym (ap length dropped); slots = so_far.slots ∙ sym (ap slots_of dropped) }

  pub ends : (last : ℕ) (book : Book) (i : ℕ) → MovedUp book i → length entries ≤ i →
      ◌≡◌ {A = Book} (record { last = last; count = book.count; entries = book.entries }) (book_of last (others target entries))
  ends last book i so_far h =
      let all : take i entries ≡ entries = take_all i entries h in
      let count : book.count ≡ length (others target entries) = rw all at so_far.count in
      let slots : book.entries ≡ slots_of (others target entries) = rw all at so_far.slots in
      λ j. record { last = last; count = count j; entries = slots j }
