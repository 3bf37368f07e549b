-- Document 01, section 6: reading a plate's text, in the order in which it is judged: the text's length, the lines up to `height=`, refusals 1 and 14
-- on the size, then the other lines. Both editions (document 02, N5) are read by these rules; edition 2 has one line more, `ends=`.
use Rattle.std.specs.Prelude.{ℕ, zero, suc, ◌+◌, ◌*◌, cond, List, [], ◌∷◌, ◌++◌, ltb, length}
use mathlib.Core.Option.{Option, none, some}
use Rattle.plate.specs.RefusalNumbers.{refusal_line, refusal_large}
use Rattle.plate.specs.Refusals.{Verdict, Verdict.accepted, Verdict.refused, row, judged, size_check}
use Rattle.plate.specs.declared.setting.Setting.{Setting}
use Rattle.text_lines.specs.Bytes.{bytes}
use Rattle.text_lines.specs.Format.{◌>>=◌ as ◌then◌, number, edition, list, named}

-- the longest text, in bytes, and the largest plate, in pixels, of the program
abbrev pub max_bytes : ℕ
max_bytes = 16384

abbrev pub max_plate : ℕ
max_plate = 512

-- one after the other: the first refusal decides
infixl 20 ◌>>=◌
abbrev pub ◌>>=◌ : {A B : Type 0} → Verdict A → (A → Verdict B) → Verdict B
accepted a >>= k = k a
refused n p >>= k = refused n p

-- what a plate's text says; `at` is the pixel to trace
pub record PlateText : Type 0 where
  pub width : ℕ
  pub height : ℕ
  pub setting : Setting
  pub at : ℕ
  pub readings : List ℕ
  pub words : List ℕ

-- what is still to be read, and the number of its first line
pub record Rest : Type 0 where
  pub line : ℕ
  pub bytes : List ℕ

-- a line is taken, or refused with 13 and its number
abbrev pub line_verdict : {A : Type 0} → ℕ → Option A → Verdict A
line_verdict line (some a) = accepted a
line_verdict line none = refused refusal_line line

-- the next line: its name, then a value of this form. "A missing line is counted where it was due"
unfoldable pub next : {A : Type 0} → List ℕ → (List ℕ → Option A) → Rest → Verdict (A × Rest)
next name form l =
    line_verdict l.line
    (named name l.bytes then λ n. form n.0 then λ a. some (a, record { line = l.line + 1; bytes = n.1 }))

-- no line is left: an extra line is refused with 13 and its number
unfoldable pub at_end : Rest → Verdict Unit
at_end l = judged (row refusal_line (ltb 0 (length l.bytes)) l.line ∷ []) tt

-- the whole text is still to be read, unless it is too long
unfoldable pub opening : List ℕ → Verdict Rest
opening text = judged (row refusal_large (ltb max_bytes (length text)) 0 ∷ []) (record { line = 1; bytes = text })

-- refusals 1 and 14 on the size
unfoldable pub size_judged : ℕ → ℕ → Rest → Verdict ((ℕ × ℕ) × Rest)
size_judged W H l = judged (size_check W H ∷ row refusal_large (ltb max_plate (W * H)) 0 ∷ []) ((W, H), l)

-- the first line: which edition the text is of
unfoldable pub edition_line : Rest → Verdict (ℕ × Rest)
edition_line l = next (bytes "plate=") edition l

-- the lines `width=` and `height=`, then the size is judged
unfoldable pub size_lines : Rest → Verdict ((ℕ × ℕ) × Rest)
size_lines l = do
  (W, l) ← next (bytes "width=") number l
  (H, l) ← next (bytes "height=") number l
  size_judged W H l

-- editions before 2 have no line `ends=`, and mean 0
unfoldable pub ends_line : ℕ → Rest → Verdict (ℕ × Rest)
ends_line e l = cond (ltb e 2) (accepted (0, l)) (next (bytes "ends=") number l)

-- the setting, and the pixel to trace, in edition e
unfoldable pub setting_lines : ℕ → Rest → Verdict ((Setting × ℕ) × Rest)
setting_lines e l = do
  (L, l) ← next (bytes "length=") number l
  (k, l) ← next (bytes "gaps=") number l
  (ends, l) ← ends_line e l
  (ways, l) ← next (bytes "ways=") number l
  (mode, l) ← next (bytes "mode=") number l
  (x, l) ← next (bytes "at=") number l
  accepted ((record { length = L; gaps = k; directions = ways; mode = mode; ends = ends }, x), l)

-- H lines of W numbers each, row by row
unfoldable pub row_lines : List ℕ → ℕ → ℕ → Rest → Verdict (List ℕ × Rest)
row_lines name W zero l = accepted ([], l)
row_lines name W (suc h) l = do
  (row, l) ← next name (list W) l
  (rows, l) ← row_lines name W h l
  accepted (row ++ rows, l)

-- the readings, the correction words, and no more
unfoldable pub plate_lines : ℕ → ℕ → Rest → Verdict (List ℕ × List ℕ)
plate_lines W H l = do
  (readings, l) ← row_lines (bytes "row=") W H l
  (words, l) ← row_lines (bytes "cor=") W H l
  _ ← at_end l
  accepted (readings, words)

-- a whole text
unfoldable pub reading : List ℕ → Verdict PlateText
reading text = do
  l ← opening text
  (e, l) ← edition_line l
  ((W, H), l) ← size_lines l
  ((setting, x), l) ← setting_lines e l
  (readings, words) ← plate_lines W H l
  accepted (record { width = W; height = H; setting = setting; at = x; readings = readings; words = words })
