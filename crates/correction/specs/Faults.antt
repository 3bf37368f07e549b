-- Document 02, N4: what one walk that takes each reading with its correction holds after any number of pixels. Which of them are bad, the refusal
-- table says.
use Rattle.std.specs.Prelude.{ℕ, Bool, cond, List, ltb, length, take, Option, Some, None}
use Rattle.basics.specs.Lists.{first_of}
use Rattle.plate.specs.Refusals.{bad_reading, bad_correction}
use Rattle.correction.specs.declared.faults.Faults.{Faults}

-- the place of the first bad number of a list, or that there is none
unfoldable pub first_bad : (ℕ → Bool) → List ℕ → Option ℕ
first_bad bad numbers = let n = first_of bad numbers in cond (ltb n (length numbers)) (Some n) None

-- after n pixels: the first bad reading among them, and the first bad correction among them
unfoldable pub faults_after : ℕ → List ℕ → List ℕ → Faults
faults_after n readings words = record { reading = first_bad bad_reading (take n readings); correction = first_bad bad_correction (take n words) }
