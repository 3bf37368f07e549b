-- Laws of the rows that are printed line by line, where an iterator takes row after row off the front of the plate.
use Prim.Native.Nat.{ℕ, zero, suc, ◌*◌, ◌<◌}
use mathlib.Core.Path.{◌≡◌, refl, ap}
use mathlib.Core.List.{List, [], ◌++◌, flat_map}
use native.Mathlib.Nat.{suc-mul}
use native.Mathlib.Omega.{arith}
use lib.ListN.{length, length-append}
use lib.Seq.{take_at, drop_at}
use lib.IntN.{ℤ}
use Rattle.survey_text.specs.Printing.{rows, out_line}
use Rattle.surveying.specs.declared.writing.Writer.{Writer}
use Rattle.surveying.specs.Buffers.{Room, Written}
use Rattle.surveying.proofs.Written.{Writing, writing_none, writing_room, writing_more, writing_end}

-- the lines of n rows
abbrev pub lines : ℕ → ℕ → List ℤ → List ℕ
lines W n f = flat_map out_line (rows W n f)

-- a plate that begins with a row: its line, and those of the n rows behind it
pub record Split (W : ℕ) (text : List ℕ) (row more : List ℤ) : Type 0 where
  pub rest : ℕ
  pub many : length more ≡ rest * W
  pub text_is : text ≡ out_line row ++ lines W rest more

split : (W n : ℕ) (f row more : List ℤ) → 0 < W → length f ≡ n * W → f ≡ row ++ more → length row ≡ W → Split W (lines W n f) row more
unfolding rows flat_map
split W zero f row more w m e k = absurd (omega (arith, ap length e, length-append row more))
split W (suc n) f row more w m e k = record {
  rest = n;
  many = omega (arith, ap length e, length-append row more, suc-mul n W);
  text_is = rw (e, take_at row more W k, drop_at row more W k) refl;
}

none_left : (W n : ℕ) (f : List ℤ) → length f ≡ n * W → length f < W → lines W n f ≡ []
unfolding rows flat_map
none_left W zero f m l = refl
none_left W (suc n) f m l = absurd (omega (arith, suc-mul n W))

-- of the whole, the lines of these levels are still to come
pub record Lined (W : ℕ) (whole : List ℕ) (left : List ℤ) (start now : Writer) : Type 0 where
  pub count : ℕ
  pub many : length left ≡ count * W
  pub writing : Writing whole (lines W count left) start now

pub lined_none : (W H : ℕ) (f : List ℤ) (w : Writer) → length f ≡ H * W → Lined W (lines W H f) f w w
lined_none W H f w m = record { count = H; many = m; writing = writing_none _ w }

module _ {W : ℕ} {whole : List ℕ} {left : List ℤ} {start now : Writer} (g : Lined W whole left start now) (room : Room whole start) where
  module _ (row more : List ℤ) (wide : 0 < W) (e : left ≡ row ++ more) (k : length row ≡ W) where
    abbrev cut : Split W (lines W g.count left) row more
    cut = split W g.count left row more wide g.many e k

    pub lined_room : Room (out_line row) now
    lined_room = writing_room g.writing room (out_line row) (lines W cut.rest more) cut.text_is

    pub lined_more : {after : Writer} → Written (out_line row) now after → Lined W whole more start after
    lined_more d = record { count = cut.rest; many = cut.many; writing = writing_more g.writing room (out_line row) (lines W cut.rest more) cut.text_is d }

  pub lined_end : length left < W → Written whole start now
  lined_end l = writing_end g.writing room (none_left W g.count left g.many l)
