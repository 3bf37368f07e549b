-- `find` meets its contract: the first usable direction gives a path, and each direction after it may give a better one.
use Prim.Native.Nat.{◌-◌, ◌^◌}
use mathlib.Core.Path.{◌≡◌, refl, sym, ◌∙◌}
use native.Mathlib.Omega.{arith}
use Rattle.plate.specs.Paths.{span}
use Rattle.tracing.specs.Finding.{keys_by}
use Rattle.theory.specs.BestWalks.{gap_end}
use Rattle.headings.proofs.Directions.{usable_long, usable_listed}
use Rattle.tracing.proofs.NotedTerms.{lowest_attained}
use Rattle.tracing.proofs.Finding.{best_first, best_more, best_skip}
use Rattle.tracing.proofs.find.Asked.find.Goals as goal
use Rattle.tracing.proofs.find.Asked.find.Goals.{then-is_usable, else-is_usable}

pub lowest-low-requires : goal.lowest-low-requires
lowest-low-requires c =
    let a = c.args in record { good_size = (c.requires.accepted.size, c.requires.accepted.long); x_bound = (c.requires.x_bound, usable_listed a.self.now.width a.self.now.height a.self.now.setting a.first c.requires.first_usable.passes, c.requires.first_usable.passes) }

pub find_at-found-requires : goal.find_at-found-requires
find_at-found-requires c =
    let a = c.args in record { accepted = c.requires.accepted; x_bound = (c.requires.x_bound, usable_listed a.self.now.width a.self.now.height a.self.now.setting a.first c.requires.first_usable.passes, c.requires.first_usable.passes) }

pub overflow_step-index : goal.overflow_step-index
overflow_step-index c = omega (arith, usable_listed c.args.self.now.width c.args.self.now.height c.args.self.now.setting c.args.first c.requires.first_usable.passes)

pub loop-index-init : goal.loop-index-init
loop-index-init c =
    let a = c.args in
    let u = c.requires.first_usable.passes in
    let l = usable_listed a.self.now.width a.self.now.height a.self.now.setting a.first u in
    let enough = usable_long a.self.now.width a.self.now.height a.self.now.setting a.first l u in
    let attained =
    lowest_attained (gap_end a.self.now.setting.ends) a.self.now.width a.self.now.height (a.self.now.setting.length - 1) a.self.now.setting.gaps (span a.self.now.width a.self.now.height (2 ^ a.first) - a.self.now.setting.length) (keys_by a.self.now.setting.mode a.self.now.plate.now) a.self.now.x a.first
    l c.requires.x_bound (omega (arith, enough, c.requires.accepted.long)) c.lowest-low.result.before c.lowest-low.ensures.2 in (
      refl,
      c.find_at-found.ensures.levels,
      best_first a.self.now.width a.self.now.height a.self.now.setting a.self.now.plate.now a.self.now.x a.first c.lowest-low.result c.find_at-found.result c.requires.first_usable c.lowest-low.ensures.0
          (rw (c.lowest-low.ensures.1, c.lowest-low.ensures.3) attained) c.find_at-found.ensures.found_at,
    )

pub loop-index-preserved : goal.loop-index-preserved
loop-index-preserved c =
    let a = c.args in
    let on = c.loop-index-test.true in
    let u = c.is_usable.ensures in
    elim c.if-is_usable.branch [
      | then-is_usable w ↦ rw (w.work-is, w.found-is) (
        w.find_at-found-then-is_usable.auto.work ∙ c.loop-index.invariant.0,
        c.loop-index.invariant.1,
        best_more a.self.now.width a.self.now.height a.self.now.setting a.self.now.plate.now a.self.now.x c.loop-index.index c.loop-index.found w.find_at-found-then-is_usable.result on (sym u ∙ w.if-is_usable.true) c.loop-index.invariant.2 w.find_at-found-then-is_usable.ensures.found_at,
      )
      | else-is_usable w ↦ rw (w.work-is, w.found-is)
          (c.loop-index.invariant.0, c.loop-index.invariant.1, best_skip a.self.now.width a.self.now.height a.self.now.setting a.self.now.plate.now a.self.now.x c.loop-index.index c.loop-index.found (sym u ∙ w.if-is_usable.false) c.loop-index.invariant.2)
    ]

pub returns : goal.returns
returns c =
    let all : c.loop-index.index ≡ 4 =
    omega (arith, c.loop-index-test.false, c.loop-index.auto.index-end, usable_listed c.args.self.now.width c.args.self.now.height c.args.self.now.setting c.args.first c.requires.first_usable.passes) in record { best_of = rw all at c.loop-index.invariant.2; levels = c.loop-index.invariant.1 }
