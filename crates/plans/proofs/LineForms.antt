-- A well-formed plan is sound, where its rows are whole lines: they are lines of the area, and a step finds every pixel of the line before, or a zero
-- beside them.
use Prim.Native.Nat.{ℕ, zero, suc, ◌+◌, ◌-◌, ◌≤◌, ◌<◌, min}
use mathlib.Core.Path.{◌≡◌, refl, sym, ◌∙◌, subst}
use mathlib.Core.Bool.{Bool, true, false, cond, true≢false}
use mathlib.Core.Logic.{inl, inr}
use native.Mathlib.Omega.{arith}
use borrow.Author.Tests.{le-leb, lt-leb}
use Rattle.basics.proofs.Numbers.{le_or_lt, rows_fit}
use Rattle.plans.specs.Plans.{line_of, first_in, past_in, keys_of, order_of, row_lo, row_hi, rows_in, seen_lo, seen_hi, keys_size, RowFits, Readable, Sound}
use Rattle.plans.specs.Forms.{origin_of}
use Rattle.plans.specs.declared.plan.Plan.{Plan}
use Rattle.plans.proofs.FormFacts.{Formed, lines_shaped, line_step}
use Rattle.plans.proofs.FormTests.{orders_lines}

-- ---- what every plan has

-- the keys of a line that exists
pub line_keyed : (p : Plan) (line : ℕ) → line < p.lines → keys_of p line + p.across ≤ keys_size p
unfolding keys_of
line_keyed p line h = rw (lt-leb p.lines line h) (omega (arith, rows_fit line 1 p.lines p.across (omega arith)))

-- a state has all rows of the next one
pub moving_more : (p : Plan) (e : ℕ) → p.still ≡ false → rows_in p (suc e) ≤ rows_in p e
unfolding rows_in
moving_more p e s = rw s (omega arith)

pub still_rows : (p : Plan) (e : ℕ) → p.still ≡ true → e < p.orders → rows_in p e ≡ p.rows
unfolding rows_in
still_rows p e s h = rw (s, le-leb (e + 1) p.orders (omega arith)) refl

pub still_none : (p : Plan) (e : ℕ) → p.still ≡ true → p.orders ≤ e → rows_in p e ≡ 0
unfolding rows_in
still_none p e s h = rw (s, lt-leb (e + 1) p.orders (omega arith)) refl

pub moving_rows : (p : Plan) (e : ℕ) → p.still ≡ false → p.rows + e ≤ p.orders → rows_in p e ≡ p.rows
unfolding rows_in
moving_rows p e s h = rw s (omega arith)

still_more : (p : Plan) (e : ℕ) → p.still ≡ true → rows_in p (suc e) ≤ rows_in p e
still_more p e s =
    elim (le_or_lt p.orders (suc e)) [
      | inl h ↦ omega (arith, still_none p (suc e) s h)
      | inr h ↦ omega (arith, still_rows p (suc e) s h, still_rows p e s (omega arith))
    ]

pub rows_more : (p : Plan) (e : ℕ) → rows_in p (suc e) ≤ rows_in p e
rows_more p e = go p.still refl
  where
    go : (b : Bool) → p.still ≡ b → rows_in p (suc e) ≤ rows_in p e
    go true s = still_more p e s
    go false s = moving_more p e s

-- the number of a row is one of the plan's
still_counted : (p : Plan) (e m : ℕ) → m < rows_in p e → p.still ≡ true → order_of p e m < p.orders
unfolding order_of
still_counted p e m h s = rw s (elim (le_or_lt p.orders e) [ inl k ↦ absurd (omega (arith, still_none p e s k)) | inr k ↦ k ])

moving_counted : (p : Plan) (e m : ℕ) → m < rows_in p e → p.still ≡ false → order_of p e m < p.orders
unfolding order_of rows_in
moving_counted p e m h s = rw s (let k : m < min p.rows (p.orders - e) = rw s at h in omega arith)

pub row_counted : (p : Plan) (e m : ℕ) → m < rows_in p e → order_of p e m < p.orders
row_counted p e m h = go p.still refl
  where
    go : (b : Bool) → p.still ≡ b → order_of p e m < p.orders
    go true s = still_counted p e m h s
    go false s = moving_counted p e m h s

pub record Reads (p : Plan) (e m : ℕ) : Type 0 where
  pub first : Readable p e m p.reach.y0 p.reach.x0
  pub second : Readable p e m p.reach.y1 p.reach.x1
  pub third : Readable p e m p.reach.y2 p.reach.x2

-- it is sound where its rows are
pub sound_where : (p : Plan) → Formed p → p.origin < 65536 → ((e m : ℕ) → m < rows_in p e → RowFits p e m × Reads p e m) → Sound p
sound_where p f origin row =
    record {
      some_planes = f.limits.some_planes;
      few_planes = f.limits.few_planes;
      some_lines = f.limits.some_lines;
      few_lines = f.limits.few_lines;
      some_across = f.limits.some_across;
      few_across = f.limits.few_across;
      few_pixels = f.limits.few_pixels;
      some_rows = f.limits.some_rows;
      few_rows = f.limits.few_rows;
      near_origin = origin;
      fits = λ e m h _. (row e m h).0;
      more = rows_more p;
      first = λ e m h _. (row e m h).1.first;
      second = λ e m h _. (row e m h).1.second;
      third = λ e m h _. (row e m h).1.third;
    }

-- ---- rows that are whole lines

module _ (p : Plan) (is_line : p.ranked ≡ false) (is-left : p.left ≡ 0) (is_right : p.right ≡ p.across) where
  pub whole_lo : (e m : ℕ) → row_lo p e m ≡ 0
  unfolding first_in
  whole_lo e m = rw is_line is-left

  pub whole_hi : (e m : ℕ) → row_hi p e m ≡ p.across
  unfolding past_in
  whole_hi e m = rw is_line is_right

  seen_lo_lem : (e m : ℕ) → seen_lo p e m ≡ 0
  unfolding seen_lo
  seen_lo_lem e zero = refl
  seen_lo_lem e (suc m) = whole_lo e m

  seen_hi_lem : (e m : ℕ) → seen_hi p e m ≡ p.across + 1
  unfolding seen_hi
  seen_hi_lem e zero = refl
  seen_hi_lem e (suc m) = rw (whole_hi e m) refl

  seen : (e d m n c x : ℕ) → x ≤ 2 → row_lo p e m ≤ c → c < row_hi p e m → (seen_lo p d n ≤ c + x) × (c + x ≤ seen_hi p d n)
  seen e d m n c x near l h = omega (arith, whole_lo e m, whole_hi e m, seen_lo_lem d n, seen_hi_lem d n)

  -- a step reads a line and what is beside it
  whole_readable : (e m y x : ℕ) → x ≤ 2 → y ≤ 2 → (p.linked ≡ false → y ≡ 0) → Readable p e m y x
  whole_readable e m y x near few unlinked =
      record {
        near = near;
        own = λ _ c l h. seen e e m m c x near l h;
        before = λ _ d _ c l h. seen e d m m c x near l h;
        beside = λ _ d _ c l h. seen e d m (suc m) c x near l h;
        few = few;
        unlinked = unlinked;
      }

  line_readable : (e m y x : ℕ) → (x ≤ 2) × (y ≤ cond p.linked 2 0) → Readable p e m y x
  line_readable e m y x s = whole_readable e m y x s.0 (go p.linked s.1) (λ u. let z : y ≤ cond false 2 0 = rw u at s.1 in omega arith)
    where
      go : (b : Bool) → y ≤ cond b 2 0 → y ≤ 2
      go true h = h
      go false h = omega arith

  whole_fits : (e m : ℕ) → order_of p e m < 65536 → (p.back ≡ true → order_of p e m ≤ p.origin) → line_of p (order_of p e m) < p.lines → RowFits p e m
  whole_fits e m small counted line =
      record {
        small = small;
        counted = counted;
        ordered = omega (arith, whole_lo e m);
        wide = omega (arith, whole_hi e m);
        keyed = line_keyed p (line_of p (order_of p e m)) line;
      }

-- the lines counted on from the first or back from the last
record InArea (back : Bool) (origin q lines : ℕ) : Type 0 where
  counted : back ≡ true → q ≤ origin
  line : cond back (origin - q) (origin + q) < lines

count_lines : (back : Bool) (top bottom lines q : ℕ) → bottom ≤ lines → q < bottom - top → InArea back (cond back (bottom - 1) top) q lines
count_lines true top bottom lines q l h = record { counted = λ _. omega arith; line = omega arith }
count_lines false top bottom lines q l h = record { counted = λ e. absurd (true≢false (sym e)); line = omega arith }

origin_small : (back : Bool) (top bottom : ℕ) → top < bottom → bottom ≤ 1024 → cond back (bottom - 1) top < 65536
origin_small true top bottom h k = omega arith
origin_small false top bottom h k = omega arith

module _ (p : Plan) (f : Formed p) (is_line : p.ranked ≡ false) where
  origin_on_lines : origin_of p ≡ cond p.back (p.bottom - 1) p.top
  unfolding origin_of
  origin_on_lines = rw is_line refl

  line_origin : p.origin ≡ cond p.back (p.bottom - 1) p.top
  line_origin = f.counted.origin ∙ origin_on_lines

  line_orders : p.orders ≡ p.bottom - p.top
  line_orders = f.counted.orders ∙ sym (orders_lines p is_line)

  line_fits : (e m : ℕ) → m < rows_in p e → RowFits p e m
  unfolding line_of
  line_fits e m h =
      let q : order_of p e m < p.bottom - p.top = omega (arith, row_counted p e m h, line_orders) in
      let c : InArea p.back p.origin (order_of p e m) p.lines =
      subst (λ (o : ℕ). InArea p.back o (order_of p e m) p.lines) (sym line_origin)
      (count_lines p.back p.top p.bottom p.lines (order_of p e m) f.area.low q) in
      let s = lines_shaped p is_line f.shaped in
      whole_fits p is_line s.from_left s.to_right e m (omega (arith, f.area.low, f.limits.few_lines)) c.counted c.line

  line_reads : (e m : ℕ) → Reads p e m
  line_reads e m =
      let s = lines_shaped p is_line f.shaped in
      let read = line_readable p is_line s.from_left s.to_right e m in
      record {
        first = read _ _ (line_step p _ _ is_line f.first);
        second = read _ _ (line_step p _ _ is_line f.second);
        third = read _ _ (line_step p _ _ is_line f.third);
      }

  pub lines_sound : Sound p
  lines_sound =
      sound_where p f
      (subst (λ (o : ℕ). o < 65536) (sym line_origin)
      (origin_small p.back p.top p.bottom f.area.high (omega (arith, f.area.low, f.limits.few_lines))))
      (λ e m h. (line_fits e m h, line_reads e m))
