-- A part of the work buffer, which begins at a place: how long it is, what stands in it, and what its pixels count for with their keys.
use Prim.Native.Nat.{ℕ, ◌+◌, ◌-◌, ◌≤◌, ◌<◌, min}
use mathlib.Core.Path.{◌≡◌, ◌∙◌}
use mathlib.Core.List.{List}
use native.Mathlib.Omega.{arith}
use lib.ListN.{length, get_or}
use Rattle.std.proofs.Common.{take, drop}
use Rattle.std.proofs.lemmas.List.{get_or-take, get_or-drop, length-take, length-drop}
use Rattle.theory.specs.BestWalks.{ended}
use Rattle.walks.specs.Endings.{ended_at}

abbrev pub part : List ℕ → ℕ → ℕ → List ℕ
part work from past = take (past - from) (drop from work)

pub part_length : (work : List ℕ) (from past : ℕ) → past ≤ length work → length (part work from past) ≡ past - from
part_length work from past h = omega (arith, length-take (past - from) (drop from work), length-drop from work)

pub part_at : (work : List ℕ) (from past k : ℕ) → k < past - from → get_or (part work from past) k 0 ≡ get_or work (from + k) 0
part_at work from past k h = get_or-take (past - from) (drop from work) k 0 h ∙ get_or-drop from work k 0

pub part_ended :
    (work : List ℕ) (slack from past keys past-keys k : ℕ) → k < past - from → k < past-keys - keys →
    min (get_or (part work from past) k 0) (ended slack (get_or (part work keys past-keys) k 0)) ≡ ended_at work slack (keys + k) (from + k)
part_ended work slack from past keys past-keys k h l = rw (part_at work from past k h, part_at work keys past-keys k l)
