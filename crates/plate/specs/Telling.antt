-- How the libraries for C tell what a call comes to: the result is 0 where it is accepted and the refusal's number else; the other values go to lent numbers.
use Rattle.std.specs.Prelude.{ℕ, ◌+◌, ◌*◌}
use Rattle.plate.specs.Refusals.{Verdict, Verdict.accepted, Verdict.refused}

-- the result of a call
abbrev pub number_of : {A : Type 0} → Verdict A → ℕ
number_of (accepted a) = 0
number_of (refused number place) = number

-- the place of a refusal; 0 where there is none
abbrev pub place_of : {A : Type 0} → Verdict A → ℕ
place_of (accepted a) = 0
place_of (refused number place) = place

-- a lent buffer: the new contents, or what it held before a refusal
abbrev pub lent_after : {A X : Type 0} → Verdict A → X → X → X
lent_after (accepted a) new old = new
lent_after (refused number place) new old = old

-- a lent number: what the call returns, or what it was before a refusal
abbrev pub value_after : {A : Type 0} → Verdict A → A → A
value_after (accepted a) old = a
value_after (refused number place) old = old

-- a version as one number, larger for a later one: minor and patch are below 100
abbrev pub version_of : ℕ → ℕ → ℕ → ℕ
version_of major minor patch = major * 10000 + minor * 100 + patch
