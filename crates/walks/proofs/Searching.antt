-- The search of the notes: row by row the best found so far is not below any term that was looked at.
use Prim.Native.Nat.{ℕ, ◌+◌, ◌-◌, ◌≤◌, ◌<◌, min}
use mathlib.Core.Path.{◌≡◌, refl}
use mathlib.Core.List.{List}
use mathlib.Core.Logic.{inl, inr, ⊎_elim}
use native.Mathlib.Omega.{arith}
use lib.ListN.{get_or}
use Rattle.basics.proofs.Numbers.{le_or_lt}
use Rattle.walks.specs.Searching.{shared_at, Possible, RowSearched, Searched}
use Rattle.walks.specs.declared.found.Found.{Found}
use Rattle.walks.proofs.Parts.{part, part_at}

-- ---- one row

-- what is made of a term by the parts of the notes
pub shared_part :
    (ends goes : List ℕ) (end go gaps planes own i : ℕ) → planes ≡ gaps + 1 → i < planes →
    min own (min (get_or (part ends end (end + planes)) i 0) (get_or (part goes go (go + planes)) (gaps - i) 0)) ≡ shared_at ends goes end go gaps own i
unfolding shared_at
shared_part ends goes end go gaps planes own i e h =
    rw (part_at ends end (end + planes) i (omega arith), part_at goes go (go + planes) (gaps - i) (omega arith)) refl

-- the same terms
pub row_same :
    (f g : ℕ → ℕ) (n index l : ℕ) (old new : Found) → ((i : ℕ) → i < n → f i ≡ g i) → RowSearched f n index l old new → RowSearched g n index l old new
row_same f g n index l old new e d =
    record {
      not_below = d.not_below;
      best = λ i h. omega (arith, e i h, d.best i h);
      source = ⊎_elim inl (λ s. inr (s.0, s.1, s.2, omega (arith, s.3, e new.gaps s.2))) d.source;
    }

module _ (terms : ℕ → ℕ) (index l : ℕ) (old : Found) where
  pub row_none : RowSearched terms 0 index l old old
  row_none = record { not_below = omega arith; best = λ i h. absurd (omega arith); source = inl refl }

  module _ (n : ℕ) (new : Found) (d : RowSearched terms n index l old new) where
    best_more : (b : ℕ) → new.key ≤ b → terms n ≤ b → (i : ℕ) → i < n + 1 → terms i ≤ b
    best_more b h k i g =
        ⊎_elim (λ a. let e : i ≡ n = omega arith in rw e k) (λ a. omega (arith, d.best i a)) (le_or_lt n i)

    pub row_kept : terms n ≤ new.key → RowSearched terms (n + 1) index l old new
    row_kept h =
        record {
          not_below = d.not_below;
          best = best_more new.key (omega arith) h;
          source = ⊎_elim inl (λ f. inr (f.0, f.1, omega (arith, f.2), f.3)) d.source;
        }

    pub row_better : (v : ℕ) → v ≡ terms n → new.key < v → RowSearched terms (n + 1) index l old (record { index = index; key = v; before = l; gaps = n })
    row_better v e h =
        record {
          not_below = omega (arith, d.not_below);
          best = best_more v (omega arith) (omega arith);
          source = inr (refl, refl, omega arith, omega arith);
        }

-- ---- row after row

module _ (terms : ℕ → ℕ → ℕ) (steps gaps spare rank index : ℕ) (old : Found) where
  pub searched_none : (past : ℕ) → past ≡ rank - spare → Searched terms steps gaps spare rank index past old old
  searched_none past e =
      record { not_below = omega arith; best = λ l i p h k. absurd (omega (arith, p.ahead)); source = inl refl }

  pub searched_more :
      (l : ℕ) (mid new : Found) → Possible steps spare rank l → Searched terms steps gaps spare rank index l old mid →
      RowSearched (terms l) (gaps + 1) index l mid new → Searched terms steps gaps spare rank index (l + 1) old new
  searched_more l mid new possible d row =
      record {
        not_below = omega (arith, d.not_below, row.not_below);
        best = λ l' i p h k.
            ⊎_elim (λ a. let e : l' ≡ l = omega arith in rw e (row.best i (omega arith))) (λ a. omega (arith, d.best l' i p a k, row.not_below)) (le_or_lt l l');
        source =
            ⊎_elim
            (λ e. rw e d.source)
            (λ f. inr
            (record {
              is_index = f.0;
              possible = rw f.1 possible;
              few = omega (arith, f.2);
              below = rw f.1 f.3;
            }))
            row.source;
      }

  -- the last row that is possible
  pub searched_all :
      (l past : ℕ) (new : Found) → min rank steps < l → Searched terms steps gaps spare rank index l old new → Searched terms steps gaps spare rank index past old new
  searched_all l past new h d =
      record {
        not_below = d.not_below;
        best = λ l' i p u k. d.best l' i p (omega (arith, p.of_path, p.behind)) k;
        source = d.source;
      }
