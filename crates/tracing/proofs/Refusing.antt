-- The checks of the trace: 1 to 8, as every call has them, then the place and the path. Which of them decides; and what holds of a trace that they let
-- pass.
use Prim.Native.Nat.{ℕ, ◌*◌, ◌<◌}
use mathlib.Core.Path.{◌≡◌, sym}
use mathlib.Core.Bool.{true, false, not}
use mathlib.Core.List.{List, [], ◌∷◌, ◌++◌}
use lib.ListN.{length}
use lib.IntN.{ℤ}
use borrow.Author.Tests.{lt-leb}
use Rattle.plate.specs.Paths.{crossed}
use Rattle.plate.specs.Opening.{level_at, filtered}
use Rattle.plate.specs.RefusalNumbers.{refusal_no_path}
use Rattle.plate.specs.Refusals.{Verdict, Verdict.accepted, Verdict.refused, Check, judged, Clear, place_check, path_check, filter_checks, trace_checks, trace_verdict}
use Rattle.plate.specs.Answers.{number_by, call_verdict}
use Rattle.plate.specs.Calls.{Passed}
use Rattle.plate.specs.declared.refusal.Reason.TheVariants.{NoPath}
use Rattle.plate.specs.declared.refusal.Refusal.{Refusal}
use Rattle.plate.specs.declared.setting.Setting.{Setting}
use Rattle.plate.specs.declared.call.Fills.TheVariants.{Path as Places}
use Rattle.plate.specs.declared.call.Lent.{Lent}
use Rattle.plate.proofs.Verdicts.{check_refuses, clear_accepted, refused_first, refused_same, refused_next, clear_both}
use Rattle.plate.proofs.Calls.{call_clear, passed}
use Rattle.std.specs.Prelude.{Option, Some, None, Result, ok_or, MatchResult}
use Rattle.headings.specs.Usable.{FirstUsable}
use Rattle.headings.proofs.Directions.{usable_crosses, none_crosses}

module _ (W H : ℕ) (s : Setting) (plate x room work : ℕ) where
  abbrev eight : List Check
  eight = filter_checks W H s plate s.length room work

  abbrev place : Check
  place = place_check (W * H) x

  abbrev crossing : Check
  crossing = path_check (crossed W H s.directions s.length x)

  abbrev pub lent : Lent
  lent = record { input = plate; fills = Places; filled = room; work = work }

  -- what all checks come to
  abbrev pub verdict : Verdict Unit
  verdict = judged (trace_checks W H s plate x room work) tt

  -- ---- one check after the other

  pub refused_call : {n p : ℕ} → refused n p ≡ call_verdict W H s lent → refused n p ≡ verdict
  unfolding call_verdict
  refused_call {n} {p} e = sym (refused_first tt tt eight (place ∷ crossing ∷ []) n p (sym e))

  module _ (accepts : accepted tt ≡ call_verdict W H s lent) where
    clear_eight : Clear eight
    clear_eight = call_clear W H s lent accepts

    pub passed_eight : Passed W H s plate s.length room work
    passed_eight = passed W H s plate s.length room work clear_eight

    -- by the length of the plate that was handed in
    pub refused_place :
        {n p : ℕ} → plate ≡ W * H → ◌≡◌ {A = Verdict (Unit {0})} (refused n p) (judged (place_check plate x ∷ []) tt) → refused n p ≡ verdict
    refused_place same e = check_refuses tt eight place (crossing ∷ []) clear_eight (rw same at e)

    module _ (on : x < W * H) where
      clear_nine : Clear (eight ++ (place ∷ []))
      clear_nine = clear_both eight (place ∷ []) clear_eight (lt-leb (W * H) x on, tt)

      pub refused_no_path : FirstUsable W H s None → refused refusal_no_path 0 ≡ verdict
      refused_no_path none =
          let e : not (crossed W H s.directions s.length x) ≡ true = rw (none_crosses W H s x passed_eight.size on passed_eight.long none) in
          refused_next tt (eight ++ (place ∷ [])) crossing [] clear_nine e

      pub all_clear : (first : ℕ) → FirstUsable W H s (Some first) → Clear (trace_checks W H s plate x room work)
      all_clear first usable =
          let e : not (crossed W H s.directions s.length x) ≡ false = rw (usable_crosses W H s x passed_eight.size on passed_eight.long first usable) in
          clear_both (eight ++ (place ∷ [])) (crossing ∷ []) clear_nine (e, tt)

      -- the first usable direction decides the last check
      pub path_decides :
          (r : Option ℕ) → FirstUsable W H s r → (answer : Result ℕ Refusal) → answer ≡ ok_or r (record { reason = NoPath; place = 0 }) →
          MatchResult answer (λ first. Clear (trace_checks W H s plate x room work) × FirstUsable W H s (Some first))
          (λ r. refused (number_by r.reason) r.place ≡ verdict)
      path_decides None none answer e = rw e (refused_no_path none)
      path_decides (Some first) usable answer e = rw e (all_clear first usable, usable)

-- ---- what the trace answers

module _ (W H : ℕ) (s : Setting) (f : List ℤ) (x room work : ℕ) where
  abbrev filtered_level : ℤ
  filtered_level = level_at (filtered s W H f) x

  pub trace_refused : {n p : ℕ} → refused n p ≡ verdict W H s (length f) x room work → refused n p ≡ trace_verdict W H s f x room work
  unfolding trace_verdict
  trace_refused {n} {p} e = sym (refused_same tt filtered_level (trace_checks W H s (length f) x room work) n p (sym e))

  pub trace_accepted : Clear (trace_checks W H s (length f) x room work) → accepted filtered_level ≡ trace_verdict W H s f x room work
  unfolding trace_verdict
  trace_accepted clear = sym (clear_accepted (trace_checks W H s (length f) x room work) filtered_level clear)
