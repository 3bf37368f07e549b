-- Which check of a call decides, told from the book without the entries that are meant: it shows as many as before exactly where none was meant. And
-- what a book that takes an entry has room for.
use Prim.Native.Nat.{ℕ, ◌+◌, ◌≤◌, ◌<◌}
use mathlib.Core.Path.{◌≡◌, refl, sym, ap}
use mathlib.Core.Bool.{Bool, true, false, not, ◌&&◌, true≢false}
use mathlib.Core.List.{List, [], ◌∷◌, ◌++◌}
use native.Mathlib.Nat.{min-le_left}
use native.Mathlib.Omega.{arith}
use lib.Dec.{eqb}
use lib.ListN.{length, set, length-take, length-append}
use lib.IntN.{ℤ}
use lib.Seq.{length-take-le}
use borrow.Author.Tests.{lt-ltb, le-ltb, ltb-false, eq-eqb, eqb-true, eqb-false}
use Rattle.basics.proofs.Tests.{or_false_left, or_false_right}
use Rattle.basics.proofs.Keeping.{Left, Left.all, Left.fewer, left_of}
use Rattle.plate.specs.RefusalNumbers.{refusal_full, refusal_spent, refusal_no_entry}
use Rattle.plate.specs.Refusals.{Verdict, Verdict.refused, row, judged, Clear}
use Rattle.plate.proofs.Verdicts.{clash, clear_accepted, refused_same}
use Rattle.book.specs.Entries.{max_entries, max_serial, is_meant, others, entry_of, standing, book_of}
use Rattle.book.specs.Refusals.{stands, overfull, is_full, is_spent, entry_checks, entered, enter_verdict, withdraw_verdict, withdrawn, handed_back}
use Rattle.book.specs.declared.entry.Key.{Key}
use Rattle.book.specs.declared.entry.Entry.{Entry}
use Rattle.book.specs.declared.target.Target.{Target}
use Rattle.book.specs.declared.target.Target.TheVariants.{OfKey, OfSerial}
use Rattle.book.specs.declared.Book.{Book}
use Rattle.book.specs.declared.Kept.{Kept}
use Rattle.book.proofs.Taking.{slots_of, stored}

-- a check of the code that refuses
pub refusing : (fault : Bool) {number n p : ℕ} → refused n p ≡ judged {A = Unit} (row number fault 0 ∷ []) tt → (fault ≡ true) × (◌≡◌ {A = Verdict Unit} (refused n p) (refused number 0))
unfolding judged
refusing true e = (refl, e)
refusing false e = clash (sym e)

-- ---- a book that shows too many

module _ (b : Book) (many : max_entries < b.count) where
  pub entry_overfull : (key : Key) → refused refusal_full 0 ≡ judged {A = Unit} (entry_checks b key) tt
  unfolding judged is_full
  entry_overfull key = rw (lt-ltb max_entries b.count many)

  pub withdraw_overfull : (serial : ℕ) → ◌≡◌ {A = Kept} (record { number = refusal_full; book = b }) (handed_back (withdraw_verdict b serial) b)
  unfolding judged withdraw_verdict
  withdraw_overfull serial = rw (lt-ltb max_entries b.count many)

-- ---- a book that does not, with its slots and what is left of it

module _ (b : Book) (few : b.count ≤ max_entries) (room : length b.entries ≡ max_entries) where
  shown : length (standing b) ≡ b.count
  shown = length-take-le b.count b.entries (omega arith)

  module _ (target : Target) (r : Book) (without : r ≡ book_of b.last (others target (standing b))) where
    left : r.count ≡ length (others target (standing b))
    left = ap (λ (x : Book). x.count) without

    -- as many as before, or fewer
    pub same_count : r.count ≡ b.count → stands b target ≡ false
    same_count e = go (left_of (is_meant target) (standing b))
      where
        go : Left (is_meant target) (standing b) → stands b target ≡ false
        go (all none l) = none
        go (fewer some l) = absurd (omega (arith, shown, left))

    pub other_count : (r.count ≡ b.count → ⊥) → stands b target ≡ true
    other_count differ = go (left_of (is_meant target) (standing b))
      where
        go : Left (is_meant target) (standing b) → stands b target ≡ true
        go (all none l) = absurd (differ (omega (arith, shown, left)))
        go (fewer some l) = some

    fewer_left : r.count ≤ b.count
    fewer_left = go (left_of (is_meant target) (standing b))
      where
        go : Left (is_meant target) (standing b) → r.count ≤ b.count
        go (all none l) = omega (arith, shown, left)
        go (fewer some l) = omega (arith, shown, left)

  -- ---- withdrawing

  module _ (serial : ℕ) (r : Book) (without : r ≡ withdrawn b serial) where
    pub withdraw_none : r.count ≡ b.count → ◌≡◌ {A = Kept} (record { number = refusal_no_entry; book = b }) (handed_back (withdraw_verdict b serial) b)
    unfolding judged withdraw_verdict
    withdraw_none e = rw (le-ltb max_entries b.count few, same_count (OfSerial serial) r without e)

    pub withdraw_done : (r.count ≡ b.count → ⊥) → ◌≡◌ {A = Kept} (record { number = 0; book = r }) (handed_back (withdraw_verdict b serial) b)
    unfolding judged withdraw_verdict
    withdraw_done differ =
        rw (le-ltb max_entries b.count few, other_count (OfSerial serial) r without differ) (λ j. record { number = 0; book = without j })

  -- ---- entering

  module _ (key : Key) (r : Book) (without : r ≡ book_of b.last (others (OfKey key) (standing b))) where
    pub entry_full : r.count ≡ max_entries → refused refusal_full 0 ≡ judged {A = Unit} (entry_checks b key) tt
    unfolding judged is_full
    entry_full e =
        let all_shown : b.count ≡ max_entries = omega (arith, few, fewer_left (OfKey key) r without) in
        let same : r.count ≡ b.count = omega arith in
        rw (le-ltb max_entries b.count few, eq-eqb b.count max_entries all_shown, same_count (OfKey key) r without same)

    -- with a slot left, the first check passes
    not_full : (r.count ≡ max_entries → ⊥) → is_full b key ≡ false
    unfolding is_full
    not_full spare = rw (le-ltb max_entries b.count few) (go (eqb b.count max_entries) refl)
      where
        go : (c : Bool) → eqb b.count max_entries ≡ c → (c && not (stands b (OfKey key))) ≡ false
        go false e = refl
        go true e = rw (other_count (OfKey key) r without (λ same. spare (omega (arith, same, eqb-true b.count max_entries e))))

    -- then the second decides
    pub entry_decides : (r.count ≡ max_entries → ⊥) → judged {A = Unit} (row refusal_spent (is_spent b) 0 ∷ []) tt ≡ judged (entry_checks b key) tt
    unfolding judged
    entry_decides spare = rw (not_full spare)

-- ---- a book that takes an entry

-- no more stand than it shows
pub shown_at_most : (b : Book) → length (standing b) ≤ b.count
shown_at_most b = rw (length-take b.count b.entries) (min-le_left b.count (length b.entries))

module _ (b : Book) (key : Key) (clear : Clear (entry_checks b key)) where
  pub shows_few : b.count ≤ max_entries
  unfolding is_full
  shows_few = ltb-false max_entries b.count (or_false_left (overfull b) (eqb b.count max_entries && not (stands b (OfKey key))) clear.0)

  -- once the entries of its key are taken out there is a slot left
  pub slot_left : length (others (OfKey key) (standing b)) < max_entries
  unfolding is_full
  slot_left = go (left_of (is_meant (OfKey key)) (standing b)) (or_false_right (overfull b) (eqb b.count max_entries && not (stands b (OfKey key))) clear.0)
    where
      go : Left (is_meant (OfKey key)) (standing b) → (eqb b.count max_entries && not (stands b (OfKey key))) ≡ false → length (others (OfKey key) (standing b)) < max_entries
      go (fewer some l) e = omega (arith, shown_at_most b, shows_few)
      go (all none l) e =
          let not-all : b.count ≡ max_entries → ⊥ = λ z. true≢false (rw (eq-eqb b.count max_entries z, none) at e) in
          omega (arith, shown_at_most b, shows_few, not-all)

  pub serial_left : b.last ≡ max_serial → ⊥
  unfolding is_spent
  serial_left = eqb-false b.last max_serial clear.1.0

-- ---- what entering hands back

module _ (b : Book) (key : Key) (level : ℤ) (direction : ℕ) where
  pub enter_refused : {number place : ℕ} → refused number place ≡ judged {A = Unit} (entry_checks b key) tt →
      ◌≡◌ {A = Kept} (record { number = number; book = b }) (handed_back (enter_verdict b key level direction) b)
  unfolding enter_verdict
  enter_refused {number} {place} e =
      ap (λ (v : Verdict Book). handed_back v b) (sym (refused_same tt (entered b key level direction) (entry_checks b key) number place (sym e)))

  -- the entry in the first slot that is left
  pub enter_done : (r : Book) → r ≡ book_of b.last (others (OfKey key) (standing b)) → Clear (entry_checks b key) →
      ◌≡◌ {A = Kept}
      (record { number = 0; book = record { last = b.last + 1; count = r.count + 1; entries = set r.entries r.count (entry_of (b.last + 1) key level direction) } })
      (handed_back (enter_verdict b key level direction) b)
  unfolding enter_verdict
  enter_done r without clear =
      let left : List Entry = others (OfKey key) (standing b) in
      let new : Entry = entry_of (b.last + 1) key level direction in
      let count : r.count + 1 ≡ length (left ++ (new ∷ [])) = rw (without, length-append left (new ∷ [])) (omega arith) in
      let slots : set r.entries r.count new ≡ slots_of (left ++ (new ∷ [])) = rw without (stored left new (slot_left b key clear)) in
      rw (clear_accepted (entry_checks b key) (entered b key level direction) clear)
      (λ j. record { number = 0; book = record { last = b.last + 1; count = count j; entries = slots j } })
