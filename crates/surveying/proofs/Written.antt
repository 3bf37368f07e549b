-- Laws of writes into a lent buffer: a write keeps the buffer's length, two in a row are one, and a write of many parts goes part by part.
use Prim.Native.Nat.{ℕ, ◌+◌, ◌-◌, ◌<◌}
use mathlib.Core.Path.{◌≡◌, refl, ap, sym, ◌∙◌}
use mathlib.Core.List.{List, [], ◌∷◌, ◌++◌, append_assoc, append-nil}
use borrow.Rule.Slice.PartMut.{put_mid}
use native.Mathlib.Nat.{add_assoc}
use native.Mathlib.Numerals.{add-one}
use native.Mathlib.Omega.{arith}
use lib.ListN.{length, take, drop, set, length-append, length-drop, take-append-drop}
use lib.Seq.{set_split, take_at, drop-append-add, drop-drop, length-take-le}
use Rattle.surveying.specs.declared.writing.Writer.{Writer}
use Rattle.surveying.specs.Buffers.{placed, Room, Written}

-- one byte
pub placed_one : (out : List ℕ) (at b : ℕ) → at < length out → set out at b ≡ placed out at (b ∷ [])
unfolding placed
placed_one out at b h = rw (set_split out at b h, add-one) (sym (append_assoc (take at out) (b ∷ []) _))

-- a text
pub placed_text : (out : List ℕ) (at : ℕ) (text now : List ℕ) → now ≡ text → put_mid at (at + length text - at) out now ≡ placed out at text
unfolding placed
placed_text out at text now e = let k : at + length text - at ≡ length text = omega arith in rw (e, k, drop-drop (length text) at out) (sym (append_assoc (take at out) text _))

-- nothing
pub written_none : (w : Writer) → Written [] w w
unfolding placed
written_none w = let e : w.at + 0 ≡ w.at = omega arith in
    record { same = refl; behind = sym e; holds = sym (rw (e, append-nil (take w.at w.out.now)) (take-append-drop w.at w.out.now)) }

placed_length : {text : List ℕ} {w : Writer} → Room text w → length (placed w.out.now w.at text) ≡ length w.out.now
unfolding placed
placed_length {text} {w} room = simp (length-append, length-drop) (omega (arith, room.fits, length-take-le w.at w.out.now (omega arith)))

pub written_length : {text : List ℕ} {w v : Writer} → Room text w → Written text w v → length v.out.now ≡ length w.out.now
written_length room d = ap length d.holds ∙ placed_length room

-- ---- two writes in a row

module _ (xs ys : List ℕ) {w : Writer} (room : Room (xs ++ ys) w) where
  pub room_first : Room xs w
  room_first = record { fits = omega (arith, room.fits, length-append xs ys) }

  placed_then : placed (placed w.out.now w.at xs) (w.at + length xs) ys ≡ placed w.out.now w.at (xs ++ ys)
  unfolding placed
  placed_then =
      let at = w.at in
      let out = w.out.now in
      let t = take at out in
      let d = drop (at + length xs) out in
      let n : length (t ++ xs) ≡ at + length xs =
      length-append t xs ∙ (let k = length-take-le at out (omega (arith, room_first.fits)) in omega arith) in
      let front : take (at + length xs) ((t ++ xs) ++ d) ≡ t ++ xs = take_at (t ++ xs) d (at + length xs) n in
      let back : drop (at + length xs + length ys) ((t ++ xs) ++ d) ≡ drop (at + length xs + length ys) out =
      ap (λ (k : ℕ). drop (k + length ys) ((t ++ xs) ++ d)) (sym n) ∙ drop-append-add (t ++ xs) d (length ys) ∙ drop-drop (length ys) (at + length xs) out in
      rw (front, back, length-append xs ys, ← add_assoc at (length xs) (length ys), append_assoc t xs ys)

  module _ {m : Writer} (d : Written xs w m) where
    pub room_then : Room ys m
    room_then = record { fits = omega (arith, room.fits, length-append xs ys, d.behind, written_length room_first d) }

    pub written_then : {v : Writer} → Written ys m v → Written (xs ++ ys) w v
    written_then e = record {
      same = e.same ∙ d.same;
      behind = omega (arith, e.behind, d.behind, length-append xs ys);
      holds = e.holds ∙ rw (d.holds, d.behind) placed_then;
    }

-- ---- three writes in a row

module _ (xs ys zs : List ℕ) {w : Writer} (room : Room (xs ++ ys ++ zs) w) where
  two_room : Room (xs ++ ys) w
  two_room = room_first (xs ++ ys) zs room

  pub room_one : Room xs w
  room_one = room_first xs ys two_room

  module _ {m : Writer} (d : Written xs w m) where
    pub room_two : Room ys m
    room_two = room_then xs ys two_room d

    module _ {n : Writer} (e : Written ys m n) where
      pub room_three : Room zs n
      room_three = room_then (xs ++ ys) zs room (written_then xs ys two_room d e)

      pub written_three : {v : Writer} → Written zs n v → Written (xs ++ ys ++ zs) w v
      written_three f = written_then (xs ++ ys) zs room (written_then xs ys two_room d e) f

-- ---- a write that goes part by part

-- what was written so far, with the rest that is to come, is the whole
pub record Writing (whole rest : List ℕ) (start now : Writer) : Type 0 where
  pub said : List ℕ
  pub written : Written said start now
  pub joined : said ++ rest ≡ whole

pub writing_none : (whole : List ℕ) (w : Writer) → Writing whole whole w w
writing_none whole w = record { said = []; written = written_none w; joined = refl }

module _ {whole rest : List ℕ} {w now : Writer} (g : Writing whole rest w now) (room : Room whole w) where
  -- all was written
  pub writing_end : rest ≡ [] → Written whole w now
  writing_end e = let f : g.said ≡ whole = sym (append-nil g.said) ∙ (let h = g.joined in rw e at h) in rw f at g.written

  module _ (part more : List ℕ) (e : rest ≡ part ++ more) where
    whole_is : (g.said ++ part) ++ more ≡ whole
    whole_is = append_assoc g.said part more ∙ (let h = g.joined in rw e at h)

    part_room : Room (g.said ++ part) w
    part_room = room_first (g.said ++ part) more (rw whole_is room)

    pub writing_room : Room part now
    writing_room = room_then g.said part part_room g.written

    pub writing_more : {v : Writer} → Written part now v → Writing whole more w v
    writing_more d = record {
      said = g.said ++ part;
      written = written_then g.said part part_room g.written d;
      joined = whole_is;
    }
