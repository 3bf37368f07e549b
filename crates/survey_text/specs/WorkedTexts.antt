-- Document 01, section 6: its example, one of edition 2 (document 02, N5), and some damaged texts. proofs/WorkedTexts.antt shows that the definitions
-- give these answers.
use Rattle.std.specs.Prelude.{ℕ, ◌-◌, length, take, drop, set, replicate}
use Prim.Native.String.{String}
use mathlib.Core.List.{List, [], ◌∷◌, ◌++◌, flat_map}
use Rattle.text_lines.specs.Bytes.{bytes, newline}

-- a text, the way and the path that are shown where a trace is accepted, and what is printed
pub record Worked : Type 0 where
  pub text : List ℕ
  pub way : ℕ
  pub path : List ℕ
  pub prints : List ℕ

-- lines, each ended by a newline
abbrev lines : List String → List ℕ
lines ls = flat_map (λ l. bytes l ++ (newline ∷ [])) ls

abbrev example : List String
example =
    "plate=1"
    ∷ "width=4"
    ∷ "height=1"
    ∷ "length=4"
    ∷ "gaps=1"
    ∷ "ways=2"
    ∷ "mode=0"
    ∷ "at=0"
    ∷ "row=9,7,12,8"
    ∷ "cor=0,65534,0,0"
    ∷ []

-- a text of edition 2; with `ends=0` its map would be 5,8,8,8
abbrev ends_example : List String
ends_example =
    "plate=2"
    ∷ "width=4"
    ∷ "height=1"
    ∷ "length=4"
    ∷ "gaps=1"
    ∷ "ends=1"
    ∷ "ways=2"
    ∷ "mode=0"
    ∷ "at=0"
    ∷ "row=5,9,12,8"
    ∷ "cor=0,0,0,0"
    ∷ []

-- lines with another n-th line, without their n-th line, and with a line more, which is the n-th then; lines are counted from 1
abbrev changed : ℕ → String → List String → List String
changed n l ls = set ls (n - 1) l

abbrev without : ℕ → List String → List String
without n ls = take (n - 1) ls ++ drop n ls

abbrev inserted : ℕ → String → List String → List String
inserted n l ls = take (n - 1) ls ++ (l ∷ drop (n - 1) ls)

-- a text for which no trace is shown
abbrev refusing : List ℕ → List String → Worked
refusing text printed = record { text = text; way = 0; path = []; prints = lines printed }

unfoldable pub worked_texts : List Worked
worked_texts =
    record {
      text = lines example;
      way = 2;
      path = 0 ∷ 1 ∷ 2 ∷ 3 ∷ [];
      prints = lines ("width=4" ∷ "height=1" ∷ "out=8,5,8,8" ∷ "way=2" ∷ "level=8" ∷ "path=0,1,2,3" ∷ []);
    }
    ∷ refusing (replicate 16385 newline) ("refused=14" ∷ "place=0" ∷ [])  -- too long
    ∷ refusing [] ("refused=13" ∷ "place=1" ∷ [])
    ∷ refusing (lines (changed 1 "plate=01" example)) ("refused=13" ∷ "place=1" ∷ [])
    ∷ refusing (lines (changed 2 "width=0000004" example)) ("refused=13" ∷ "place=2" ∷ [])  -- seven digits
    ∷ refusing (lines (changed 2 "width=4\r" example)) ("refused=13" ∷ "place=2" ∷ [])
    ∷ refusing (lines (changed 2 "width=0" example)) ("refused=1" ∷ "place=0" ∷ [])
    ∷ refusing (lines (changed 2 "width=513" example)) ("refused=14" ∷ "place=0" ∷ [])  -- before the rows, which are not of 513 numbers
    ∷ refusing (lines (without 7 example)) ("refused=13" ∷ "place=7" ∷ [])
    ∷ refusing (lines (changed 9 "row=9,7,12,8,1" example)) ("refused=13" ∷ "place=9" ∷ [])
    ∷ refusing (lines (changed 10 "cor=0,65536,0,0" example)) ("refused=13" ∷ "place=10" ∷ [])
    ∷ refusing (take (length (lines example) - 1) (lines example)) ("refused=13" ∷ "place=10" ∷ [])  -- the last newline is missing
    ∷ refusing (lines (example ++ ("" ∷ []))) ("refused=13" ∷ "place=11" ∷ [])  -- an empty line more
    ∷ refusing (lines (changed 9 "row=9,7,16384,8" example)) ("refused=9" ∷ "place=2" ∷ [])
    ∷ refusing (lines (changed 10 "cor=0,0,0,49151" example)) ("refused=10" ∷ "place=3" ∷ [])
    ∷ refusing (lines (changed 5 "gaps=4" example)) ("refused=3" ∷ "place=0" ∷ [])
    ∷ refusing (lines (changed 8 "at=4" example)) ("width=4" ∷ "height=1" ∷ "out=8,5,8,8" ∷ "refused=11" ∷ "place=0" ∷ [])
    ∷ refusing (lines (changed 6 "ways=1" example)) ("width=4" ∷ "height=1" ∷ "out=-32768,-32768,-32768,-32768" ∷ "refused=12" ∷ "place=0" ∷ [])
    ∷ record {
      text = lines ends_example;
      way = 2;
      path = 0 ∷ 1 ∷ 2 ∷ 3 ∷ [];
      prints = lines ("width=4" ∷ "height=1" ∷ "out=5,5,5,5" ∷ "way=2" ∷ "level=5" ∷ "path=0,1,2,3" ∷ []);
    }
    ∷ refusing (lines (changed 1 "plate=3" ends_example)) ("refused=13" ∷ "place=1" ∷ [])
    ∷ refusing (lines (inserted 6 "ends=1" example)) ("refused=13" ∷ "place=6" ∷ [])  -- edition 1 has no such line
    ∷ refusing (lines (without 6 ends_example)) ("refused=13" ∷ "place=6" ∷ [])
    ∷ refusing (lines (changed 6 "ends=2" ends_example)) ("refused=18" ∷ "place=0" ∷ [])
    ∷ refusing (lines (changed 8 "mode=2" (changed 6 "ends=2" ends_example))) ("refused=5" ∷ "place=0" ∷ [])
    ∷ refusing (lines (changed 10 "row=5,9,16384,8" (changed 6 "ends=2" ends_example))) ("refused=9" ∷ "place=2" ∷ [])
    ∷ refusing (lines (changed 4 "length=5" ends_example)) ("width=4" ∷ "height=1" ∷ "out=-32768,-32768,-32768,-32768" ∷ "refused=12" ∷ "place=0" ∷ [])
    ∷ []
