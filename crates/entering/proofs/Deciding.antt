-- Which check of a call that enters a trace decides, and what is known once all have passed: the trace is accepted, and the book takes the entry.
use Prim.Native.Nat.{ℕ}
use mathlib.Core.Path.{◌≡◌, sym, ap, ◌∙◌}
use mathlib.Core.List.{List}
use lib.ListN.{length}
use lib.IntN.{ℤ}
use Rattle.plate.specs.Opening.{level_at, filtered}
use Rattle.plate.specs.Refusals.{Verdict, Verdict.accepted, Verdict.refused, judged, Clear, trace_checks, trace_verdict}
use Rattle.plate.specs.declared.setting.Setting.{Setting}
use Rattle.plate.proofs.Verdicts.{clear_accepted, accepted_clear, refused_first, refused_same, passed_first, clear_first, clear_second}
use Rattle.book.specs.Refusals.{entry_checks, entered, enter_verdict, handed_back}
use Rattle.book.specs.declared.entry.Key.{Key}
use Rattle.book.specs.declared.Book.{Book}
use Rattle.book.specs.declared.Kept.{Kept}
use Rattle.entering.specs.Refusals.{key_of, enter_trace_checks, enter_trace_verdict}
use Rattle.entering.specs.declared.pixel.Pixel.{Pixel}

-- ---- one check after the other

module _ (W H : ℕ) (s : Setting) (plate : ℕ) (pixel : Pixel) (b : Book) (room work : ℕ) where
  -- what all checks come to
  abbrev pub verdict : Verdict Unit
  verdict = judged (enter_trace_checks W H s plate pixel b room work) tt

  abbrev traced : Verdict Unit
  traced = judged (trace_checks W H s plate pixel.place room work) tt

  pub trace_refuses : {n p : ℕ} → refused n p ≡ traced → refused n p ≡ verdict
  trace_refuses {n} {p} e = sym (refused_first tt tt (trace_checks W H s plate pixel.place room work) (entry_checks b (key_of s pixel)) n p (sym e))

  pub book_decides : accepted tt ≡ traced → judged (entry_checks b (key_of s pixel)) tt ≡ verdict
  book_decides e =
      sym (passed_first tt (trace_checks W H s plate pixel.place room work) (entry_checks b (key_of s pixel)) (accepted_clear (trace_checks W H s plate pixel.place room work) tt tt (sym e)).1)

-- ---- once they have decided

module _ (W H : ℕ) (s : Setting) (f : List ℤ) (pixel : Pixel) (b : Book) (room work : ℕ) where
  abbrev filtered_level : ℤ
  filtered_level = level_at (filtered s W H f) pixel.place

  abbrev checks : Type 0
  checks = Clear (enter_trace_checks W H s (length f) pixel b room work)

  pub refuses : {n p : ℕ} → refused n p ≡ verdict W H s (length f) pixel b room work → refused n p ≡ enter_trace_verdict W H s f pixel b room work
  unfolding enter_trace_verdict
  refuses {n} {p} e = sym (refused_same tt filtered_level (enter_trace_checks W H s (length f) pixel b room work) n p (sym e))

  pub passes : accepted tt ≡ verdict W H s (length f) pixel b room work → checks
  passes e = (accepted_clear (enter_trace_checks W H s (length f) pixel b room work) tt tt (sym e)).1

  -- the call returns what its trace does
  pub as_traced : checks → trace_verdict W H s f pixel.place room work ≡ enter_trace_verdict W H s f pixel b room work
  unfolding trace_verdict enter_trace_verdict
  as_traced clear =
      clear_accepted (trace_checks W H s (length f) pixel.place room work) filtered_level (clear_first (trace_checks W H s (length f) pixel.place room work) (entry_checks b (key_of s pixel)) clear)
      ∙ sym (clear_accepted (enter_trace_checks W H s (length f) pixel b room work) filtered_level clear)

  pub book_takes : checks → Clear (entry_checks b (key_of s pixel))
  book_takes clear = clear_second (trace_checks W H s (length f) pixel.place room work) (entry_checks b (key_of s pixel)) clear

  -- so does a call that has returned a level
  pub level_takes : (level : ℤ) → accepted level ≡ enter_trace_verdict W H s f pixel b room work → Clear (entry_checks b (key_of s pixel))
  unfolding enter_trace_verdict
  level_takes level e = book_takes (accepted_clear (enter_trace_checks W H s (length f) pixel b room work) filtered_level level (sym e)).1

-- a book that takes an entry hands back the one with it
pub taken : (b : Book) (key : Key) (level : ℤ) (direction : ℕ) (r : Kept) → Clear (entry_checks b key) → r ≡ handed_back (enter_verdict b key level direction) b → r.book ≡ entered b key level direction
unfolding enter_verdict
taken b key level direction r clear e =
    ap (λ (k : Kept). k.book) (rw (clear_accepted (entry_checks b key) (entered b key level direction) clear) at e)
