-- `follow_any` meets its contract: at each turn the trail has one pixel more.
use Prim.Native.Nat.{ℕ, ◌+◌, ◌<◌}
use mathlib.Core.Path.{◌≡◌, ◌∙◌}
use native.Mathlib.Omega.{arith}
use lib.ListN.{length}
use Rattle.headings.specs.Trails.{Within, index_after}
use Rattle.headings.proofs.Trails.{index_within, within_less, within_few, index_there}
use Rattle.headings.proofs.Ahead.{is_chosen, trail_goes_on}
use Rattle.headings.proofs.onward.follow_any.Goals as goal
use Rattle.headings.proofs.onward.follow_any.Goals.{After-index_after-i}

pub unwrap-place-requires : goal.unwrap-place-requires
unwrap-place-requires c =
    let a = c.args in
    is_chosen a.heading a.path.now a.start a.steps c.loop-n.path c.loop-n.place c.loop-n.n c.loop-n.invariant c.loop-n-test.true _ c.choose.ensures

-- the index that is written
module _ (c : After-index_after-i) where
  abbrev next : ℕ
  next = c.loop-n.n + 1

  within : Within c.args.heading.backwards (length c.args.path.now) c.args.start next
  within =
      within_less c.args.heading.backwards (length c.args.path.now) c.args.start c.args.steps next c.requires.within
      (omega (arith, c.loop-n-test.true))

  is_index : c.index_after-i.result ≡ index_after c.args.heading.backwards c.args.start next
  is_index =
      c.index_after-i.ensures
      ∙ index_there c.args.heading.backwards c.args.start next (omega (arith, c.requires.path_len_bound))
      (omega (arith, c.requires.path_len_bound, within_few c.args.heading.backwards (length c.args.path.now) c.args.start next within))

  in_path : c.index_after-i.result < length c.args.path.now
  in_path =
      omega (arith, is_index, index_within c.args.heading.backwards (length c.args.path.now) c.args.start next within)

pub offset_bounds-path-i : goal.offset_bounds-path-i
offset_bounds-path-i c = omega (arith, in_path c, c.requires.path_len_bound)

pub bounds-path-i : goal.bounds-path-i
bounds-path-i c = omega (arith, in_path c, c.loop-n.invariant.trail.len)

pub loop-n-preserved : goal.loop-n-preserved
loop-n-preserved c =
    let a = c.args in
    trail_goes_on a.heading a.path.now a.start a.steps c.loop-n.path c.loop-n.place c.loop-n.n c.loop-n.invariant c.loop-n-test.true
    c.unwrap-place.result (rw c.unwrap-place.ensures at c.choose.ensures) c.index_after-i.result (is_index c) c.requires.within
