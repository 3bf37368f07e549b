-- A well-formed plan is sound, where its rows are ranks. From rank to rank the first pixel moves by at most one, and so does the last; a step goes to
-- the rank before by none or one pixel, or by one pixel to the rank before that, so that it stays within them or falls beside them.
use Prim.Native.Nat.{ℕ, zero, suc, ◌+◌, ◌-◌, ◌≤◌, ◌<◌, min, max}
use mathlib.Core.Path.{◌≡◌, refl, sym, ◌∙◌, subst}
use mathlib.Core.Bool.{Bool, true, false, cond, not, true≢false}
use mathlib.Core.Logic.{◌⊎◌, inl, inr}
use native.Mathlib.Omega.{arith}
use borrow.Author.Tests.{le-leb}
use Rattle.basics.proofs.Numbers.{le_or_lt, rows_fit}
use Rattle.plans.specs.Plans.{line_of, first_in, past_in, keys_of, order_of, row_lo, row_hi, rows_in, seen_lo, seen_hi, keys_size, RowFits, Readable, Sound}
use Rattle.plans.specs.Forms.{origin_of}
use Rattle.plans.specs.declared.plan.Plan.{Plan}
use Rattle.plans.proofs.FormFacts.{Formed, ranks_shaped, rank_step}
use Rattle.plans.proofs.FormTests.{orders_ranked}
use Rattle.plans.proofs.LineForms.{line_keyed, row_counted, Reads, sound_where}

-- the keys of a rank that exists
pub rank_keyed : (p : Plan) (rank : ℕ) → p.across ≤ p.lines → rank + 2 ≤ p.lines + p.across → keys_of p rank + p.across ≤ keys_size p
unfolding keys_of
rank_keyed p rank slim h =
    elim (le_or_lt p.lines rank) [
      | inl k ↦ rw (le-leb p.lines rank k) (omega (arith, rows_fit (rank - p.lines) 1 p.lines p.across (omega arith)))
      | inr k ↦ line_keyed p rank k
    ]

-- ---- the ranks of an area, from its first line and pixel to its last

module _ (top bottom left right : ℕ) where
  abbrev pub ranks : ℕ
  ranks = bottom - top + (right - left) - 1

  abbrev pub start : Bool → ℕ
  start back = cond back (bottom + right - 2) (top + left)

  abbrev pub rank_of : Bool → ℕ → ℕ
  rank_of back q = cond back (start back - q) (start back + q)

  abbrev pub lo : ℕ → ℕ
  lo k = max left (k + 1 - bottom)

  abbrev pub hi : ℕ → ℕ
  hi k = min right (k + 1 - top)

  -- the pixels of rank k, and of rank l, which is n ranks on
  record Beyond (n k l : ℕ) : Type 0 where
    lo_up : lo k ≤ lo l
    lo_near : lo l ≤ lo k + n
    hi_up : hi k ≤ hi l
    hi_near : hi l ≤ hi k + n

  beyond : (n k l : ℕ) → l ≡ k + n → Beyond n k l
  beyond n k l e = record { lo_up = omega arith; lo_near = omega arith; hi_up = omega arith; hi_near = omega arith }

  -- from the first rank to the last
  record Within (k : ℕ) : Type 0 where
    from : top + left ≤ k
    below : k + 2 ≤ bottom + right

  within : top < bottom → left < right → (back : Bool) (q : ℕ) → q < ranks → Within (rank_of back q)
  within a b true q h = record { from = omega arith; below = omega arith }
  within a b false q h = record { from = omega arith; below = omega arith }

  in_order : top < bottom → left < right → (k : ℕ) → Within k → lo k ≤ hi k
  in_order a b k w = omega arith

  back_counted : top < bottom → left < right → (back : Bool) (q : ℕ) → q < ranks → back ≡ true → q ≤ start back
  back_counted a b true q h _ = omega arith
  back_counted a b false q h e = absurd (true≢false (sym e))

  start_small : top < bottom → left < right → bottom ≤ 1024 → right ≤ 1024 → (back : Bool) → start back < 65536
  start_small a b u v true = omega arith
  start_small a b u v false = omega arith

  -- counted from the other end, a rank has as many ranks before it as it has after it counted from this one
  pub rank_from_other_end : top < bottom → left < right → (b : Bool) (q s : ℕ) → q + s + 1 ≡ ranks → rank_of (not b) s ≡ rank_of b q
  rank_from_other_end a h true q s e = omega arith
  rank_from_other_end a h false q s e = omega arith

-- ---- the plan

module _ (p : Plan) (f : Formed p) (is-rank : p.ranked ≡ true) where
  abbrev pub rank : ℕ → ℕ
  rank q = rank_of p.top p.bottom p.left p.right p.back q

  abbrev all : ℕ
  all = ranks p.top p.bottom p.left p.right

  origin_on_ranks : origin_of p ≡ start p.top p.bottom p.left p.right p.back
  unfolding origin_of
  origin_on_ranks = rw is-rank refl

  rank_origin : p.origin ≡ start p.top p.bottom p.left p.right p.back
  rank_origin = f.counted.origin ∙ origin_on_ranks

  order_is : (e m : ℕ) → order_of p e m ≡ e + m
  unfolding order_of
  order_is e m = rw (ranks_shaped p is-rank f.shaped).moves refl

  row_order : (e m : ℕ) → m < rows_in p e → e + m < all
  row_order e m h = omega (arith, row_counted p e m h, order_is e m, f.counted.orders, orders_ranked p is-rank)

  line_is : (q : ℕ) → line_of p q ≡ rank q
  unfolding line_of
  line_is q = rw rank_origin refl

  lo_is : (k : ℕ) → first_in p k ≡ lo p.top p.bottom p.left p.right k
  unfolding first_in
  lo_is k = rw is-rank refl

  hi_is : (k : ℕ) → past_in p k ≡ hi p.top p.bottom p.left p.right k
  unfolding past_in
  hi_is k = rw is-rank refl

  pub row_lo_lem : (e m : ℕ) → row_lo p e m ≡ lo p.top p.bottom p.left p.right (rank (e + m))
  row_lo_lem e m = rw (order_is e m, line_is (e + m)) (lo_is (rank (e + m)))

  pub row_hi_lem : (e m : ℕ) → row_hi p e m ≡ hi p.top p.bottom p.left p.right (rank (e + m))
  row_hi_lem e m = rw (order_is e m, line_is (e + m)) (hi_is (rank (e + m)))

  -- ---- rows and keys

  rank_fits : (e m : ℕ) → m < rows_in p e → RowFits p e m
  rank_fits e m h =
      let a = f.area in
      let q = row_order e m h in
      let w = within p.top p.bottom p.left p.right a.high a.wide p.back (e + m) q in
      record {
        small = omega (arith, order_is e m, f.limits.few_lines, f.limits.few_across, a.low, a.narrow);
        counted = λ b.
            omega (
              arith,
              order_is e m,
              rank_origin,
              back_counted p.top p.bottom p.left p.right a.high a.wide p.back (e + m) q b,
            );
        ordered = rw (row_lo_lem e m, row_hi_lem e m) (in_order p.top p.bottom p.left p.right a.high a.wide (rank (e + m)) w);
        wide = omega (arith, row_hi_lem e m, a.narrow);
        keyed =
            subst (λ (k : ℕ). keys_of p k + p.across ≤ keys_size p) (sym (rw (order_is e m) (line_is (e + m))))
            (rank_keyed p (rank (e + m)) (ranks_shaped p is-rank f.shaped).slim (omega (arith, w.below, a.low, a.narrow)));
      }

  -- ---- what is read of the ranks before

  -- the rank that comes n rows earlier: counted on it is n ranks less, counted back n ranks more
  record Apart (n q s : ℕ) : Type 0 where
    on : p.back ≡ false → rank s ≡ rank q + n
    back : p.back ≡ true → rank q ≡ rank s + n

  on_apart : (n q s : ℕ) (b : Bool) → s ≡ q + n → b ≡ false →
      rank_of p.top p.bottom p.left p.right b s ≡ rank_of p.top p.bottom p.left p.right b q + n
  on_apart n q s true e c = absurd (true≢false c)
  on_apart n q s false e c = omega arith

  back_apart : (n q s : ℕ) (b : Bool) → s ≡ q + n → s < all → b ≡ true →
      rank_of p.top p.bottom p.left p.right b q ≡ rank_of p.top p.bottom p.left p.right b s + n
  back_apart n q s true e h c = omega (arith, f.area.high, f.area.wide)
  back_apart n q s false e h c = absurd (true≢false (sym c))

  apart : (n q s : ℕ) → s ≡ q + n → s < all → Apart n q s
  apart n q s e h = record { on = on_apart n q s p.back e; back = back_apart n q s p.back e h }

  -- pixels x on, less one, of the rank that comes n earlier
  seen_at : (n q s c x : ℕ) → s ≡ q + n → s < all → x ≤ 2 → (p.back ≡ true → n ≤ x) → (p.back ≡ false → x + n ≤ 2) →
      lo p.top p.bottom p.left p.right (rank s) ≤ c → c < hi p.top p.bottom p.left p.right (rank s) →
      (lo p.top p.bottom p.left p.right (rank q) ≤ c + x) × (c + x ≤ hi p.top p.bottom p.left p.right (rank q) + 1)
  seen_at n q s c x e h near when-back when-on l u = go p.back refl
    where
      go : (b : Bool) → p.back ≡ b →
          (lo p.top p.bottom p.left p.right (rank q) ≤ c + x) × (c + x ≤ hi p.top p.bottom p.left p.right (rank q) + 1)
      go true b =
          let n' = beyond p.top p.bottom p.left p.right n (rank s) (rank q) ((apart n q s e h).back b) in
          (omega (arith, n'.lo_near, when-back b), omega (arith, n'.hi_up))
      go false b =
          let n' = beyond p.top p.bottom p.left p.right n (rank q) (rank s) ((apart n q s e h).on b) in
          (omega (arith, n'.lo_up), omega (arith, n'.hi_near, when-on b))

  seen_lo_lem : (d m : ℕ) → seen_lo p d (suc m) ≡ lo p.top p.bottom p.left p.right (rank (d + m))
  unfolding seen_lo
  seen_lo_lem d m = row_lo_lem d m

  seen_hi_lem : (d m : ℕ) → seen_hi p d (suc m) ≡ hi p.top p.bottom p.left p.right (rank (d + m)) + 1
  unfolding seen_hi
  seen_hi_lem d m = rw (row_hi_lem d m) refl

  -- row k − 1 of the state before, which comes n rows earlier
  rank_seen : (n d m k c x : ℕ) → suc d + m + 1 ≡ d + k + n → m < rows_in p (suc d) → x ≤ 2 → (p.back ≡ true → n ≤ x) → (p.back ≡ false → x + n ≤ 2) →
      row_lo p (suc d) m ≤ c → c < row_hi p (suc d) m → (seen_lo p d k ≤ c + x) × (c + x ≤ seen_hi p d k)
  unfolding seen_lo seen_hi
  rank_seen n d m zero c x e h near when-back when-on l u = (omega arith, omega (arith, row_hi_lem (suc d) m, f.area.narrow))
  rank_seen n d m (suc k) c x e h near when-back when-on l u =
      let s =
      seen_at n (d + k) (suc d + m) c x (omega arith) (row_order (suc d) m h) near when-back when-on (omega (arith, row_lo_lem (suc d) m))
      (omega (arith, row_hi_lem (suc d) m)) in
      (omega (arith, s.0, seen_lo_lem d k), omega (arith, s.1, seen_hi_lem d k))

  is_linked : p.linked ≡ true
  is_linked = (ranks_shaped p is-rank f.shaped).linked

  -- where a step may lead, by the way of counting
  from_back : (x : ℕ) (b : Bool) → cond b 1 0 ≤ x → b ≡ true → 1 ≤ x
  from_back x true h _ = h
  from_back x false h e = absurd (true≢false (sym e))

  to_on : (x : ℕ) (b : Bool) → x ≤ cond b 2 1 → b ≡ false → x + 1 ≤ 2
  to_on x true h e = absurd (true≢false e)
  to_on x false h _ = omega arith

  at_most : (x : ℕ) (b : Bool) → x ≤ cond b 2 1 → x ≤ 2
  at_most x true h = h
  at_most x false h = omega arith

  rank_readable : (e m y x : ℕ) → m < rows_in p e →
      ((y ≡ 2) × (cond p.back 1 0 ≤ x) × (x ≤ cond p.back 2 1)) ⊎ ((y ≡ 1) × (x ≡ cond p.back 2 0)) → Readable p e m y x
  rank_readable e m y x h (inl s) =
      record {
        near = at_most x p.back s.2;
        own = λ z. absurd (omega (arith, s.0));
        before = λ z. absurd (omega (arith, s.0));
        beside = λ _ d g c l u.
            rank_seen 1 d m (suc m) c x (omega arith) (rw g at h) (at_most x p.back s.2) (from_back x p.back s.1) (to_on x p.back s.2)
            (rw g at l)
            (rw g at u);
        few = omega (arith, s.0);
        unlinked = λ u. absurd (true≢false (sym is_linked ∙ u));
      }
  rank_readable e m y x h (inr s) =
      record {
        near = rw s.1 (two p.back);
        own = λ z. absurd (omega (arith, s.0));
        before = λ _ d g c l u.
            rank_seen 2 d m m c x (omega arith) (rw g at h) (rw s.1 (two p.back)) (λ b. rw (s.1, b) (omega arith)) (λ b. rw (s.1, b) (omega arith))
            (rw g at l)
            (rw g at u);
        beside = λ z. absurd (omega (arith, s.0));
        few = omega (arith, s.0);
        unlinked = λ u. absurd (true≢false (sym is_linked ∙ u));
      }
    where
      two : (b : Bool) → cond b 2 0 ≤ 2
      two true = omega arith
      two false = omega arith

  rank_reads : (e m : ℕ) → m < rows_in p e → Reads p e m
  rank_reads e m h =
      record {
        first = rank_readable e m _ _ h (rank_step p _ _ is-rank f.first);
        second = rank_readable e m _ _ h (rank_step p _ _ is-rank f.second);
        third = rank_readable e m _ _ h (rank_step p _ _ is-rank f.third);
      }

  pub ranks_sound : Sound p
  ranks_sound =
      let a = f.area in
      sound_where p f
      (subst (λ (o : ℕ). o < 65536) (sym rank_origin)
      (start_small p.top p.bottom p.left p.right a.high a.wide (omega (arith, a.low, f.limits.few_lines))
      (omega (arith, a.narrow, f.limits.few_across))
      p.back))
      (λ e m h. (rank_fits e m h, rank_reads e m h))
