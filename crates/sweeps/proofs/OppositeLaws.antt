-- A plan and the same rows counted from the other end are opposite: a state of one has the rows of the state of the other that has as many states after
-- it, in the opposite order. On ranks both name one rank, since states and rows together are one more than the ranks.
use Prim.Native.Nat.{ℕ, ◌+◌, ◌-◌, ◌≤◌, ◌<◌}
use mathlib.Core.Path.{◌≡◌, refl, sym, ap, ◌∙◌}
use mathlib.Core.Bool.{Bool, true, false, not}
use native.Mathlib.Omega.{arith}
use Rattle.plans.specs.Plans.{row_lo, row_hi, rows_in}
use Rattle.plans.specs.Forms.{well_formed}
use Rattle.plans.specs.declared.plan.Plan.{Plan}
use Rattle.plans.specs.declared.plan.Reach.{Reach}
use Rattle.plans.proofs.FormFacts.{formed, lines_shaped, ranks_shaped}
use Rattle.plans.proofs.FormTests.{orders_ranked}
use Rattle.plans.proofs.LineForms.{still_rows, moving_rows, whole_lo, whole_hi}
use Rattle.plans.proofs.RankForms.{lo, hi, rank_of, rank_from_other_end, row_lo_lem, row_hi_lem}
use Rattle.sweeps.specs.Sweeps.{Opposite}
use Rattle.sweeps.specs.Doors.{states_of, other_end}
use Rattle.sweeps.proofs.DoorTests.{states_still, states_moving}

-- what comes before and what comes after, together with the row itself, are all rows
before_and_after : (states rows e m all : ℕ) → states ≡ all + 1 - rows → e < states → m < rows → e + m + (states - 1 - e + (rows - 1 - m)) + 1 ≡ all
before_and_after states rows e m all s h l = omega arith

module _ (p : Plan) (reach : Reach) (w : well_formed p ≡ true) (v : well_formed (other_end p reach) ≡ true) where
  all_rows : (e : ℕ) → e < states_of p → rows_in p e ≡ p.rows
  all_rows e h = go p.still refl
    where
      go : (b : Bool) → p.still ≡ b → rows_in p e ≡ p.rows
      go true s = still_rows p e s (omega (arith, states_still p s))
      go false s = moving_rows p e s (omega (arith, states_moving p s))

  same_rows_in : (e : ℕ) → rows_in (other_end p reach) e ≡ rows_in p e
  unfolding rows_in
  same_rows_in e = refl

  -- ---- on ranks

  meets : p.ranked ≡ true → (e m : ℕ) → e < states_of p → m < p.rows →
      rank_of p.top p.bottom p.left p.right (not p.back) (states_of p - 1 - e + (p.rows - 1 - m)) ≡
      rank_of p.top p.bottom p.left p.right p.back (e + m)
  meets r e m h l =
      let f = formed p w in
      rank_from_other_end p.top p.bottom p.left p.right f.area.high f.area.wide p.back (e + m)
      (states_of p - 1 - e + (p.rows - 1 - m))
      (before_and_after (states_of p) p.rows e m p.orders (sym (states_moving p (ranks_shaped p r f.shaped).moves)) h l
      ∙ f.counted.orders
      ∙ sym (orders_ranked p r))

  -- ---- the pixels of a row

  same_lo : (e m : ℕ) → e < states_of p → m < p.rows → row_lo (other_end p reach) (states_of p - 1 - e) (p.rows - 1 - m) ≡ row_lo p e m
  same_lo e m h l = go p.ranked refl
    where
      go : (b : Bool) → p.ranked ≡ b → row_lo (other_end p reach) (states_of p - 1 - e) (p.rows - 1 - m) ≡ row_lo p e m
      go true r =
          row_lo_lem (other_end p reach) (formed (other_end p reach) v) r (states_of p - 1 - e) (p.rows - 1 - m)
          ∙ ap (lo p.top p.bottom p.left p.right) (meets r e m h l)
          ∙ sym (row_lo_lem p (formed p w) r e m)
      go false r =
          let s = lines_shaped p r (formed p w).shaped in
          whole_lo (other_end p reach) r s.from_left s.to_right _ _ ∙ sym (whole_lo p r s.from_left s.to_right e m)

  same_hi : (e m : ℕ) → e < states_of p → m < p.rows → row_hi (other_end p reach) (states_of p - 1 - e) (p.rows - 1 - m) ≡ row_hi p e m
  same_hi e m h l = go p.ranked refl
    where
      go : (b : Bool) → p.ranked ≡ b → row_hi (other_end p reach) (states_of p - 1 - e) (p.rows - 1 - m) ≡ row_hi p e m
      go true r =
          row_hi_lem (other_end p reach) (formed (other_end p reach) v) r (states_of p - 1 - e) (p.rows - 1 - m)
          ∙ ap (hi p.top p.bottom p.left p.right) (meets r e m h l)
          ∙ sym (row_hi_lem p (formed p w) r e m)
      go false r =
          let s = lines_shaped p r (formed p w).shaped in
          whole_hi (other_end p reach) r s.from_left s.to_right _ _ ∙ sym (whole_hi p r s.from_left s.to_right e m)

  pub opposites : states_of p ≤ 1024 → Opposite p (other_end p reach) (states_of p)
  opposites few =
      record {
        few = few;
        same_planes = refl;
        same_lines = refl;
        same_across = refl;
        same_rows = refl;
        same_links = refl;
        full = all_rows;
        full_other = λ e h. same_rows_in e ∙ all_rows e h;
        same_lo = same_lo;
        same_hi = same_hi;
      }
