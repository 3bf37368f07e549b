-- Document 02, N3: a trace entered in a book. Its checks are the trace's own, then 15 and 16; the entry has the trace's level and direction.
use Rattle.std.specs.Prelude.{ℕ, List, ◌++◌, length, ℤ, Result, Ok, Err}
use Rattle.plate.specs.Opening.{level_at, filtered}
use Rattle.plate.specs.Refusals.{Verdict, Check, judged, trace_checks}
use Rattle.plate.specs.declared.setting.Setting.{Setting}
use Rattle.plate.specs.declared.answer.Trace.{Trace}
use Rattle.plate.specs.declared.refusal.Refusal.{Refusal}
use Rattle.book.specs.Refusals.{entry_checks, entered}
use Rattle.book.specs.declared.entry.Key.{Key}
use Rattle.book.specs.declared.Book.{Book}
use Rattle.entering.specs.declared.pixel.Pixel.{Pixel}

-- what the entry is about: "the same plate, place and mode (its key)"
abbrev pub key_of : Setting → Pixel → Key
key_of s pixel = record { plate = pixel.plate; place = pixel.place; mode = s.mode }

-- 1 to 5, 18, 6 to 8, 11, 12, then 15, 16: "after the trace's own refusals", with the lengths of plate, path and work
abbrev pub enter_trace_checks : ℕ → ℕ → Setting → ℕ → Pixel → Book → ℕ → ℕ → List Check
enter_trace_checks W H s plate pixel b room work =
    trace_checks W H s plate pixel.place room work ++ entry_checks b (key_of s pixel)

-- accepted, it returns what the trace does: the filtered level at the pixel
unfoldable pub enter_trace_verdict : ℕ → ℕ → Setting → List ℤ → Pixel → Book → ℕ → ℕ → Verdict ℤ
enter_trace_verdict W H s f pixel b room work =
    judged (enter_trace_checks W H s (length f) pixel b room work) (level_at (filtered s W H f) pixel.place)

-- the book that comes back: the trace's level and direction entered, or "as it came"
abbrev pub book_after : Result Trace Refusal → Book → Key → Book
book_after (Ok trace) b key = entered b key trace.level trace.direction
book_after (Err r) b key = b
