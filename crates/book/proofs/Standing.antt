-- What stands for a key after one call more: of the entries that were left by it, those that last, for every list of serial numbers withdrawn since.
-- Each case is `keep` of what was kept already.
use Prim.Native.Nat.{ℕ}
use mathlib.Core.Path.{◌≡◌, refl, sym, ◌∙◌}
use mathlib.Core.Bool.{Bool, true, false, cond, not, ◌&&◌, ◌||◌}
use mathlib.Core.List.{List, [], ◌∷◌, ◌++◌, append-nil}
use lib.Dec.{eqb, eqb→eq}
use lib.IntN.{ℤ}
use Rattle.basics.specs.Lists.{any, keep}
use Rattle.basics.proofs.Tests.{and_both, true_T}
use Rattle.basics.proofs.Keeping.{keep_append, keep_same, keep_twice, keep_none}
use Rattle.book.specs.Entries.{is_meant, others, entry_of}
use Rattle.book.specs.History.{Event, Event.entering, Event.withdrawing, was_withdrawn, last_entry}
use Rattle.book.specs.declared.entry.Key.{Key}
use Rattle.book.specs.declared.entry.Entry.{Entry}
use Rattle.book.specs.declared.target.Target.TheVariants.{OfKey, OfSerial}

-- of the key, and not withdrawn since
abbrev pub lasting : Key → List ℕ → Entry → Bool
lasting key since e = is_meant (OfKey key) e && not (was_withdrawn since e)

-- what stands and what was accepted agree on every key, whatever is withdrawn from here on
abbrev pub Agree : List Entry → List Event → Type 0
Agree entries events = (key : Key) (since : List ℕ) → keep (lasting key since) entries ≡ last_entry key since events

pub agree_nothing : Agree [] []
unfolding keep last_entry
agree_nothing key since = refl

-- ---- a withdrawal

module _ (serial : ℕ) where
  joined : (a k b : Bool) → (not a && (k && not b)) ≡ (k && not (a || b))
  joined true true b = refl
  joined true false b = refl
  joined false k b = refl

  since_too : (key : Key) (since : List ℕ) (x : Entry) → (not (is_meant (OfSerial serial) x) && lasting key since x) ≡ lasting key (serial ∷ since) x
  unfolding was_withdrawn any
  since_too key since x = joined (is_meant (OfSerial serial) x) (is_meant (OfKey key) x) (any (λ (n : ℕ). is_meant (OfSerial n) x) since)

  pub after_withdrawal : (entries : List Entry) (events : List Event) → Agree entries events → Agree (others (OfSerial serial) entries) (withdrawing serial ∷ events)
  unfolding last_entry
  after_withdrawal entries events agree key since =
      keep_twice (lasting key since) (λ (x : Entry). not (is_meant (OfSerial serial) x)) entries
      ∙ keep_same (λ (x : Entry). not (is_meant (OfSerial serial) x) && lasting key since x) (lasting key (serial ∷ since)) (since_too key since) entries
      ∙ agree key (serial ∷ since)

-- ---- an entry

-- one that is of a key has its numbers
of_key : (key : Key) (x : Entry) → is_meant (OfKey key) x ≡ true → (x.plate ≡ key.plate) × (x.place ≡ key.place) × (x.mode ≡ key.mode)
unfolding is_meant
of_key key x e =
    let t = and_both (eqb x.plate key.plate && eqb x.place key.place) (eqb x.mode key.mode) (true_T _ e) in
    let u = and_both (eqb x.plate key.plate) (eqb x.place key.place) t.0 in
    (eqb→eq x.plate key.plate u.0, eqb→eq x.place key.place u.1, eqb→eq x.mode key.mode t.1)

-- a new one, of the key `own`
module _ (serial : ℕ) (own : Key) (level : ℤ) (direction : ℕ) where
  abbrev new : Entry
  new = entry_of serial own level direction

  -- where it is of a key, that is its own
  own_key : (key : Key) (x : Entry) → is_meant (OfKey key) new ≡ true → is_meant (OfKey key) x ≡ is_meant (OfKey own) x
  unfolding is_meant
  own_key key x e = let same = of_key key new e in rw (same.0, same.1, same.2)

  -- an entry of its own key is of a key exactly where it is
  same_key : (key : Key) (x : Entry) → is_meant (OfKey own) x ≡ true → is_meant (OfKey key) new ≡ is_meant (OfKey key) x
  unfolding is_meant
  same_key key x e = let same = of_key own x e in rw (same.0, same.1, same.2)

  never : (a r : Bool) → (not a && (a && r)) ≡ false
  never true r = refl
  never false r = refl

  -- of the entries that it has left, those that last: none where it is of the key, all of them where it is not
  left_none : (key : Key) (since : List ℕ) (entries : List Entry) → is_meant (OfKey key) new ≡ true → keep (lasting key since) (others (OfKey own) entries) ≡ []
  left_none key since entries e =
      keep_twice (lasting key since) (λ (x : Entry). not (is_meant (OfKey own) x)) entries
      ∙ keep_none (λ (x : Entry). not (is_meant (OfKey own) x) && lasting key since x)
      (λ (x : Entry). rw (own_key key x e) (never (is_meant (OfKey own) x) (not (was_withdrawn since x)))) entries

  left_all : (key : Key) (since : List ℕ) (entries : List Entry) → is_meant (OfKey key) new ≡ false →
      keep (lasting key since) (others (OfKey own) entries) ≡ keep (lasting key since) entries
  left_all key since entries e =
      keep_twice (lasting key since) (λ (x : Entry). not (is_meant (OfKey own) x)) entries
      ∙ keep_same (λ (x : Entry). not (is_meant (OfKey own) x) && lasting key since x) (lasting key since) (λ (x : Entry). each x (is_meant (OfKey own) x) refl) entries
    where
      each : (x : Entry) (b : Bool) → is_meant (OfKey own) x ≡ b → (not b && lasting key since x) ≡ lasting key since x
      each x false f = refl
      each x true f = rw (sym (same_key key x f) ∙ e)

  one_left : (b : Bool) (e : Entry) → cond (not b) (e ∷ []) [] ≡ cond b [] (e ∷ [])
  one_left true e = refl
  one_left false e = refl

  pub after_entry : (entries : List Entry) (events : List Event) → Agree entries events → Agree (others (OfKey own) entries ++ (new ∷ [])) (entering new ∷ events)
  unfolding last_entry keep
  after_entry entries events agree key since =
      keep_append (lasting key since) (others (OfKey own) entries) (new ∷ []) ∙ go (is_meant (OfKey key) new) refl
    where
      go : (b : Bool) → is_meant (OfKey key) new ≡ b →
          keep (lasting key since) (others (OfKey own) entries) ++ cond (b && not (was_withdrawn since new)) (new ∷ []) []
          ≡ cond b (cond (was_withdrawn since new) [] (new ∷ [])) (last_entry key since events)
      go true e = rw (left_none key since entries e) (one_left (was_withdrawn since new) new)
      go false e = rw (left_all key since entries e) (append-nil (keep (lasting key since) entries) ∙ agree key since)

-- ---- with nothing withdrawn since

pub agree_alone : (entries : List Entry) (events : List Event) → Agree entries events → (key : Key) → keep (is_meant (OfKey key)) entries ≡ last_entry key [] events
unfolding was_withdrawn any
agree_alone entries events agree key =
    sym (keep_same (lasting key []) (is_meant (OfKey key)) (λ (x : Entry). kept (is_meant (OfKey key) x)) entries) ∙ agree key []
  where
    kept : (b : Bool) → (b && true) ≡ b
    kept true = refl
    kept false = refl
