-- The trace's lines: what `trace` answers is the survey's verdict, and the path that it left shows what section 4 asks.
use Prim.Native.Nat.{ℕ}
use mathlib.Core.Path.{◌≡◌, sym, subst, ◌∙◌}
use mathlib.Core.List.{List, []}
use native.Mathlib.Omega.{arith}
use lib.IntN.{ℤ}
use lib.ListN.{get_or}
use Rattle.std.specs.Prelude.{Result, Ok, Err}
use Rattle.basics.proofs.Lists.{get_or_in}
use Rattle.plate.specs.Answers.{traced_level, TraceAfter}
use Rattle.plate.specs.declared.answer.Trace.{Trace}
use Rattle.plate.specs.declared.refusal.Refusal.{Refusal}
use Rattle.plate.proofs.Verdicts.{clash}
use Rattle.theory.specs.Trace.{Shows}
use Rattle.theory.proofs.Listed.{path_on}
use Rattle.survey_text.specs.Survey.{Survey, traced}
use Rattle.survey_text.proofs.Verdicts.{accepted_same}
use Rattle.surveying.specs.declared.writing.Writer.{Writer}
use Rattle.surveying.specs.Surveying.{ShowsOf}
use Rattle.surveying.specs.Steps.{max_trace, Ready, traced_text, OnPlate, WrittenShort, TraceWritten}

module _ (v : Survey) where
  -- what the trace's lent buffers hold
  abbrev After : Result Trace Refusal → (path path' work work' : List ℕ) → Type 0
  After r = TraceAfter r (Shows v.setting v.width v.height v.levels v.at)

  pub on_plate : Ready v → (r : Result Trace Refusal) (old path work work' : List ℕ) → After r old path work work' → OnPlate r path
  on_plate ready (Ok trace) old path work work' t = λ i h.
      omega (arith, ready.fitting.small, path_on v.width v.height trace.direction v.setting.length path t.is_path (get_or path i 0) (get_or_in path i 0 h))
  on_plate ready (Err r) old path work work' t = tt

  pub trace_lines : (r : Result Trace Refusal) (old path work work' : List ℕ) → traced_level r ≡ traced v → After r old path work work' →
      {before after : Writer} → WrittenShort (traced_text r path) max_trace before after → TraceWritten v before after
  trace_lines (Ok trace) old path work work' e t w =
      record {
        way = trace.direction;
        path = path;
        shows = λ l h. subst (λ (k : ℤ). ShowsOf v k trace.direction path) (accepted_same trace.level l (e ∙ h)) t;
        lines = rw (← e) w;
      }
  trace_lines (Err r) old path work work' e t w =
      record { way = 0; path = []; shows = λ l h. clash (sym (e ∙ h)); lines = rw (← e) w }
