-- How long the printed lines are. Numbers are counted by their digits, lists by their elements with a comma each and rows by their levels, so that a
-- buffer of a fixed size has room for every answer.
use Prim.Native.Nat.{ℕ, zero, suc, ◌+◌, ◌*◌, ◌^◌, ◌≤◌, ◌<◌}
use mathlib.Core.Path.{◌≡◌}
use mathlib.Core.List.{List, [], ◌∷◌, ◌++◌, map, flat_map}
use native.Mathlib.Nat.{suc-mul, mul-le-mul_right, mul_comm, mul-add, mul_assoc}
use native.Mathlib.Omega.{arith}
use lib.IntN.{ℤ, pos, negsuc}
use lib.ListN.{length, get_or, take, drop, length-append, length-take, length-drop}
use lib.Seq.{get_or-take, get_or-drop}
use lib.Signed.{mag}
use Rattle.text_lines.specs.Bytes.{bytes, newline, comma}
use Rattle.survey_text.specs.Printing.{decimal, signed_decimal, parted, line, rows, out_line, out_text, level_line, path_line, trace_text, refusal_text}
use Rattle.surveying.specs.Steps.{max_out, max_trace, max_refusal, SixteenBits}
use Rattle.surveying.proofs.Decimals.{decimal_length}
use Rattle.surveying.proofs.Parted.{behind}

-- ---- numbers

-- a number of 64 bits
pub size_length : (n : ℕ) → n < 2 ^ 64 → length (decimal n) ≤ 20
size_length n h = decimal_length 19 n (omega arith)

pub place_length : (n : ℕ) → n < 100000 → length (decimal n) ≤ 5
place_length n h = decimal_length 4 n (omega arith)

pub level_length : (v : ℤ) → mag v < 32768 → length (signed_decimal v) ≤ 6
unfolding signed_decimal
level_length (pos n) h = omega (arith, place_length n (omega arith))
level_length (negsuc n) h = omega (arith, place_length (suc n) (omega arith))

-- ---- lists and lines

module _ {A : Type 0} (show : A → List ℕ) (d : A) (b : ℕ) where
  behind_length : (xs : List A) → ((i : ℕ) → i < length xs → length (show (get_or xs i d)) ≤ b) → length (behind show xs) ≤ length xs * suc b
  unfolding flat_map
  behind_length [] h = omega arith
  behind_length (x ∷ xs) h =
      omega (arith, length-append (comma ∷ show x) (behind show xs), h 0 (omega arith), behind_length xs (λ i l. h (suc i) (omega arith)), suc-mul (length xs) (suc b))

  pub parted_length : (xs : List A) → ((i : ℕ) → i < length xs → length (show (get_or xs i d)) ≤ b) → length (parted (map show xs)) ≤ length xs * suc b
  unfolding parted
  parted_length [] h = omega arith
  parted_length (x ∷ xs) h =
      omega (arith, length-append (show x) (behind show xs), h 0 (omega arith), behind_length xs (λ i l. h (suc i) (omega arith)), suc-mul (length xs) (suc b))

pub line_length : (name value : List ℕ) → length (line name value) ≡ length name + length value + 1
unfolding line
line_length name value = omega (arith, length-append (name ++ value) (newline ∷ []), length-append name value)

-- ---- the plate: at most 7 bytes a level and 5 more a row

take_within : {A : Type 0} (n : ℕ) (xs : List A) → (length (take n xs) ≤ n) × (length (take n xs) ≤ length xs)
take_within n xs = simp length-take (omega arith, omega arith)

out_line_length : (row : List ℤ) → SixteenBits row → length (out_line row) ≤ 5 + length row * 7
unfolding out_line
out_line_length row h =
    omega (arith, line_length (bytes "out=") (parted (map signed_decimal row)), parted_length signed_decimal (pos 0) 6 row (λ i l. level_length (get_or row i (pos 0)) (h.each i l)))

bits_take : (n : ℕ) (f : List ℤ) → SixteenBits f → SixteenBits (take n f)
bits_take n f h = record { each = λ i l. let t = take_within n f in let m : i < n = omega arith in rw (get_or-take n f i (pos 0) m) (h.each i (omega arith)) }

bits_drop : (n : ℕ) (f : List ℤ) → SixteenBits f → SixteenBits (drop n f)
bits_drop n f h = record { each = λ i l. rw (get_or-drop n f i (pos 0)) (h.each (n + i) (omega (arith, length-drop n f))) }

rows_length : (W H : ℕ) (f : List ℤ) → SixteenBits f → length (flat_map out_line (rows W H f)) ≤ H * (5 + W * 7)
unfolding rows flat_map
rows_length W zero f h = omega arith
rows_length W (suc H) f h =
    omega (
      arith,
      length-append (out_line (take W f)) (flat_map out_line (rows W H (drop W f))),
      out_line_length (take W f) (bits_take W f h),
      (take_within W f).0,
      rows_length W H (drop W f) (bits_drop W f h),
      suc-mul H (5 + W * 7),
    )

pub out_length : (W H : ℕ) (f : List ℤ) → SixteenBits f → 1 ≤ W → W < 100000 → H < 100000 → W * H ≤ 512 → length (out_text W H f) ≤ max_out
unfolding out_text
out_length W H f h o w k s =
    let rs = flat_map out_line (rows W H f) in
    let a = line (bytes "width=") (decimal W) in
    let b = line (bytes "height=") (decimal H) in
    omega (
      arith,
      length-append (a ++ b) rs,
      length-append a b,
      line_length (bytes "width=") (decimal W),
      line_length (bytes "height=") (decimal H),
      place_length W w,
      place_length H k,
      rows_length W H f h,
      mul-add H 5 (W * 7),
      mul_assoc H W 7,
      mul_comm H W,
      mul-le-mul_right H o,
    )

-- ---- the trace

pub trace_length : (way : ℕ) (level : ℤ) (path : List ℕ) → way < 2 ^ 64 → mag level < 32768 → ((i : ℕ) → i < length path → get_or path i 0 < 100000) → length path ≤ 1024 →
    length (trace_text way level path) ≤ max_trace
unfolding trace_text level_line path_line
trace_length way level path w m h n =
    let a = line (bytes "way=") (decimal way) in
    let b = line (bytes "level=") (signed_decimal level) in
    let c = line (bytes "path=") (parted (map decimal path)) in
    omega (
      arith,
      length-append (a ++ b) c,
      length-append a b,
      line_length (bytes "way=") (decimal way),
      line_length (bytes "level=") (signed_decimal level),
      line_length (bytes "path=") (parted (map decimal path)),
      size_length way w,
      level_length level m,
      parted_length decimal 0 5 path (λ i l. place_length (get_or path i 0) (h i l)),
    )

-- ---- the refusal

pub refusal_length_lem : (number place : ℕ) → number < 2 ^ 64 → place < 2 ^ 64 → length (refusal_text number place) ≤ max_refusal
unfolding refusal_text
refusal_length_lem number place n p =
    omega (
      arith,
      length-append (line (bytes "refused=") (decimal number)) (line (bytes "place=") (decimal place)),
      line_length (bytes "refused=") (decimal number),
      line_length (bytes "place=") (decimal place),
      size_length number n,
      size_length place p,
    )
