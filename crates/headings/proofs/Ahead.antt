-- A path at the lowest key, where every path counts: a pixel with room for more steps has a neighbour with room for all of them but one, so that one is
-- chosen; and the trail goes on there.
use Prim.Native.Nat.{ℕ, ◌+◌, ◌-◌, ◌*◌, ◌≤◌, ◌<◌}
use mathlib.Core.Path.{◌≡◌, refl, sym}
use mathlib.Core.List.{List}
use native.Mathlib.Omega.{arith}
use Rattle.std.specs.Prelude.{Option, Some, None, IsSome}
use lib.ListN.{length, get_or, set}
use Rattle.theory.proofs.Ranks.{bit_listed}
use Rattle.theory.proofs.Sides.{Side, side}
use Rattle.headings.specs.Headings.{bit_of, room_at}
use Rattle.headings.specs.Choosing.{Fitting, Chosen}
use Rattle.headings.specs.Trails.{index_after, Within, Trail}
use Rattle.headings.specs.declared.heading.Heading.{Heading}
use Rattle.headings.proofs.Trails.{within_less, trail_more, last_written}

module _ (h : Heading) (old : List ℕ) (start steps : ℕ) where
  -- after n of the steps: the trail is written as far as this place, which has room for the others
  pub record OnTrail (path : List ℕ) (place n : ℕ) : Type 0 where
    pub trail : Trail h.width h.height (bit_of h) h.backwards old path start n
    pub here : place ≡ get_or path (index_after h.backwards start n) 0
    pub on : place < h.width * h.height
    pub few : n ≤ steps
    pub roomy : steps - n ≤ room_at h place

  module _ (path : List ℕ) (place n : ℕ) (d : OnTrail path place n) (more : n < steps) where
    S : Side h.width h.height (bit_of h) h.backwards
    S = side h.width h.height (bit_of h) (bit_listed h.index h.listed) h.backwards

    -- there is a neighbour with room for the steps that are left
    pub is_chosen : (r : Option ℕ) → Chosen h place (steps - n - 1) r → IsSome r
    is_chosen (Some q) e = refl
    is_chosen None e =
        let q = S.onward place d.on (omega (arith, d.roomy)) in
        absurd (e q.0 (record { near = q.1; roomy = omega (arith, q.2, d.roomy) }))

    pub trail_goes_on :
        (r : ℕ) → Fitting h place (steps - n - 1) r → (i : ℕ) → i ≡ index_after h.backwards start (n + 1) → Within h.backwards (length old) start steps →
        OnTrail (set path i r) r (n + 1)
    trail_goes_on r fits i is-i within =
        let w = within_less h.backwards (length old) start steps (n + 1) within (omega arith) in
        rw is-i
        (record {
          trail = trail_more h.width h.height (bit_of h) h.backwards old start path n r w d.trail (rw (← d.here) fits.near);
          here = sym (last_written h.width h.height (bit_of h) h.backwards old start path n r w d.trail);
          on = (S.stays place r fits.near).1;
          few = omega arith;
          roomy = omega (arith, fits.roomy);
        })
