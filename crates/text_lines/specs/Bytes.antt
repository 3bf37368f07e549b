-- Quoted texts as bytes. The texts that the format and the answer name hold characters of ASCII alone, whose codes are their bytes.
use Rattle.std.specs.Prelude.{ℕ, List, [], ◌∷◌}
use Prim.Native.Char.{code}
use Prim.Native.String.{String}
use Prim.Native.String as string

abbrev pub bytes : String → List ℕ
bytes string.[] = []
bytes (string.◌∷◌ c cs) = code c ∷ bytes cs

abbrev pub newline : ℕ
newline = 10

abbrev pub comma : ℕ
comma = 44

abbrev pub minus : ℕ
minus = 45

-- the digit 0; the digits stand in a row
abbrev pub zero_digit : ℕ
zero_digit = 48
