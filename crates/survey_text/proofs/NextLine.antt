-- Laws of a line that is read: what its name and its value make of it. The value's bytes are read by the form `some`, and then by the line's own.
use Prim.Native.Nat.{ℕ, ◌+◌}
use mathlib.Core.Path.{◌≡◌, ap}
use mathlib.Core.List.{List}
use mathlib.Core.Option.{Option, none, some}
use native.Mathlib.Omega.{arith}
use Rattle.plate.specs.Refusals.{Verdict, Verdict.accepted, Verdict.refused}
use Rattle.text_lines.specs.Format.{◌>>=◌ as ◌then◌, named}
use Rattle.survey_text.specs.Reading.{Rest, line_verdict, next}
use Rattle.survey_text.proofs.Verdicts.{accepted_same}

-- it is missing, has no newline, or has another name
pub next_no_name : {A : Type 0} (name : List ℕ) (form : List ℕ → Option A) (l : Rest) → none ≡ named name l.bytes → refused 13 l.line ≡ next name form l
unfolding next
next_no_name name form l e = rw (← e)

-- its bytes
pub next_bytes : (name : List ℕ) (l : Rest) (value rest : List ℕ) → some (value, rest) ≡ named name l.bytes →
    accepted (value, record { line = l.line + 1; bytes = rest }) ≡ next name some l
unfolding next
next_bytes name l value rest e = rw (← e)

-- a line by what was found of it
abbrev line_by : {A : Type 0} → (List ℕ → Option A) → Rest → Option (List ℕ × List ℕ) → Verdict (A × Rest)
line_by form l found = line_verdict l.line (found then λ n. form n.0 then λ a. some (a, record { line = l.line + 1; bytes = n.1 }))

module _ {A : Type 0} (name : List ℕ) (form : List ℕ → Option A) (l : Rest) where
  refused_by : (found : Option (List ℕ × List ℕ)) (n p : ℕ) → refused n p ≡ line_by some l found → refused n p ≡ line_by form l found
  refused_by none n p e = cc
  refused_by (some f) n p e = absurd (let z : ◌≡◌ {A = ℕ} 0 1 = cc in omega arith)

  -- no bytes were read
  pub next_refused : (n p : ℕ) → refused n p ≡ next name some l → refused n p ≡ next name form l
  unfolding next
  next_refused n p e = refused_by (named name l.bytes) n p e

  read_by : (found : Option (List ℕ × List ℕ)) (value : List ℕ) (rest : Rest) → accepted (value, rest) ≡ line_by some l found →
      line_verdict l.line (form value then λ a. some (a, rest)) ≡ line_by form l found
  read_by none value rest e = absurd (let z : ◌≡◌ {A = ℕ} 0 1 = cc in omega arith)
  read_by (some f) value rest e =
      let s : (value, rest) ≡ (f.0, record { line = l.line + 1; bytes = f.1 }) = accepted_same _ _ e in
      ap (λ (x : List ℕ × Rest). line_verdict l.line (form x.0 then λ a. some (a, x.1))) s

  -- they were
  pub next_read : (value : List ℕ) (rest : Rest) → accepted (value, rest) ≡ next name some l →
      line_verdict l.line (form value then λ a. some (a, rest)) ≡ next name form l
  unfolding next
  next_read value rest e = read_by (named name l.bytes) value rest e

  module _ (value : List ℕ) (rest : Rest) (e : accepted (value, rest) ≡ next name some l) where
    -- but do not have the line's form
    pub next_no_value : none ≡ form value → refused 13 l.line ≡ next name form l
    next_no_value f = rw (← next_read value rest e, ← f)

    -- and have it
    pub next_value : {a : A} → some a ≡ form value → accepted (a, rest) ≡ next name form l
    next_value f = rw (← next_read value rest e, ← f)
