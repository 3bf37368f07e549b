-- A good size is one that refusal 1 does not forbid: both sides are 1 to 1,024, and there are at most 65,536 pixels.
use Prim.Native.Nat.{ℕ, ◌*◌}
use mathlib.Core.Path.{◌≡◌}
use mathlib.Core.Bool.{false, ◌||◌}
use lib.Dec.{ltb, eqb}
use borrow.Author.Tests.{ltb-false, eqb-false, le-ltb, ne_eqb}
use native.Mathlib.Omega.{arith}
use Rattle.basics.proofs.Tests.{or_false_left, or_false_right}
use Rattle.plate.specs.Limits.{max_side, max_pixels}
use Rattle.plate.specs.Refusals.{bad_size}
use Rattle.plate.specs.Sizes.{GoodSize}

pub good_size : (W H : ℕ) → bad_size W H ≡ false → GoodSize W H
unfolding bad_size
good_size W H e =
    let a = eqb W 0 in
    let b = ltb max_side W in
    let c = eqb H 0 in
    let d = ltb max_side H in
    let f = ltb max_pixels (W * H) in
    let abcd = or_false_left (a || b || c || d) f e in
    let abc = or_false_left (a || b || c) d abcd in
    let ab = or_false_left (a || b) c abc in
    let W≠0 = eqb-false W 0 (or_false_left a b ab) in
    let H≠0 = eqb-false H 0 (or_false_right (a || b) c abc) in
    record {
      wide = omega (arith, W≠0);
      narrow = ltb-false 1024 W (or_false_right a b ab);
      high = omega (arith, H≠0);
      low = ltb-false 1024 H (or_false_right (a || b || c) d abcd);
      few = ltb-false 65536 (W * H) (or_false_right (a || b || c || d) f e);
    }

pub allowed_size : {W H : ℕ} → GoodSize W H → bad_size W H ≡ false
unfolding bad_size
allowed_size {W} {H} g =
    simp (
      ne_eqb W 0 (λ e. omega (arith, g.wide, e)),
      le-ltb max_side W g.narrow,
      ne_eqb H 0 (λ e. omega (arith, g.high, e)),
      le-ltb max_side H g.low,
      le-ltb max_pixels (W * H) g.few,
    )
