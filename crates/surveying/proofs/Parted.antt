-- Laws of a list that is written with commas between its elements: the first one, and then each other one behind a comma.
use Prim.Native.Nat.{ℕ, ◌+◌, ◌<◌}
use mathlib.Core.Path.{◌≡◌, refl}
use mathlib.Core.List.{List, [], ◌∷◌, ◌++◌, map, flat_map}
use native.Mathlib.Numerals.{add-one}
use native.Mathlib.Omega.{arith}
use lib.ListN.{length, get_or, drop}
use lib.Seq.{drop-cons}
use Rattle.text_lines.specs.Bytes.{comma}
use Rattle.survey_text.specs.Printing.{parted}
use Rattle.surveying.specs.declared.writing.Writer.{Writer}
use Rattle.surveying.specs.Buffers.{Room, Written}
use Rattle.surveying.proofs.Written.{Writing, writing_room, writing_more}

-- each element behind a comma
abbrev pub behind : {A : Type 0} → (A → List ℕ) → List A → List ℕ
behind show xs = flat_map (λ y. comma ∷ y) (map show xs)

pub parted_none : {A : Type 0} (show : A → List ℕ) (xs : List A) → length xs ≡ 0 → parted (map show xs) ≡ []
unfolding parted
parted_none show [] e = refl
parted_none show (x ∷ xs) e = absurd (omega arith)

pub parted_first : {A : Type 0} (show : A → List ℕ) {items : List A} (x : A) (xs : List A) → items ≡ x ∷ xs → parted (map show items) ≡ show x ++ behind show xs
unfolding parted
parted_first show x xs e = rw e refl

module _ {A : Type 0} (show : A → List ℕ) (xs : List A) (d : A) (i : ℕ) (h : i < length xs) where
  -- the next element and those behind it
  abbrev pub following : List ℕ
  following = show (get_or xs i d) ++ behind show (drop (i + 1) xs)

  pub behind_more : behind show (drop i xs) ≡ (comma ∷ []) ++ following
  unfolding flat_map
  behind_more = rw (add-one, drop-cons xs i d h)

  module _ {whole : List ℕ} {w now : Writer} (g : Writing whole (behind show (drop i xs)) w now) (room : Room whole w) where
    pub comma_room : Room (comma ∷ []) now
    comma_room = writing_room g room (comma ∷ []) following behind_more

    module _ {mid : Writer} (c : Written (comma ∷ []) now mid) where
      after_comma : Writing whole following w mid
      after_comma = writing_more g room (comma ∷ []) following behind_more c

      pub element_room : Room (show (get_or xs i d)) mid
      element_room = writing_room after_comma room (show (get_or xs i d)) (behind show (drop (i + 1) xs)) refl

      pub element_written : {after : Writer} → Written (show (get_or xs i d)) mid after → Writing whole (behind show (drop (i + 1) xs)) w after
      element_written e = writing_more after_comma room (show (get_or xs i d)) (behind show (drop (i + 1) xs)) refl e
