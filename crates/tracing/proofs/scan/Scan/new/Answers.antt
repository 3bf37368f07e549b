-- `Scan::new` meets its contract: each number of the scan is the one of the definition, and its type says what the caller asks for.
use Prim.Native.Nat.{◌^◌}
use mathlib.Core.Path.{◌≡◌, refl, ◌∙◌}
use native.Mathlib.Omega.{arith}
use Rattle.plate.specs.Paths.{span}
use Rattle.plate.proofs.Spans.{span_good, span_bound}
use Rattle.tracing.proofs.scan.Scan.new.Goals as goal
use Rattle.tracing.proofs.scan.Scan.new.Goals.{After-span_of-longest}

is_longest : (c : After-span_of-longest) → c.span_of-longest.result ≡ span c.args.width c.args.height (2 ^ c.args.index)
is_longest c = c.span_of-longest.ensures ∙ span_good c.requires.good_size c.args.index c.requires.le_length.3

pub overflow_sub-result-2 : goal.overflow_sub-result-2
overflow_sub-result-2 c = omega (arith, is_longest (goal.at.overflow_sub-result-2 c).After-span_of-longest, c.requires.long)

pub invariant_of-result : goal.invariant_of-result
invariant_of-result c =
    let e = is_longest (goal.at.invariant_of-result c).After-span_of-longest in
    let most = span_bound c.requires.good_size c.args.index c.requires.le_length.3 in
    record {
      size = c.requires.good_size;
      few = c.requires.le_length.2;
      known = c.requires.le_length.3;
      long = omega (arith, c.requires.le_length, c.requires.long, e);
      short = omega (arith, c.requires.le_length, c.requires.long, c.span_of-longest.ensures, most);
      few_steps = omega (arith, c.requires.le_length);
      is_length = omega (arith, c.requires.le_length);
      few_slack = omega (arith, c.gap_end);
    }

pub returns : goal.returns
returns c =
    record { is_width = refl; is_height = refl; is_setting = refl; is_index = refl; is_steps = refl; is_slack = c.gap_end.ensures }
