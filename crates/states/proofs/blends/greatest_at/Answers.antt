-- `greatest_at` meets its contract: the greater of turned numbers is that of the numbers.
use Prim.Native.Nat.{ℕ, ◌+◌, ◌≤◌, ◌<◌, max}
use mathlib.Core.Path.{◌≡◌, sym, ap, ◌∙◌}
use mathlib.Core.List.{List}
use native.Mathlib.Omega.{arith}
use lib.ListN.{length, get_or}
use Rattle.eights.specs.Turned.{turned, numbers}
use Rattle.eights.proofs.TurnedLaws.{numbers_at}
use Rattle.states.proofs.blends.greatest_at.Goals as goal

-- what an eight that was read stands for
read : (held eight : List ℕ) (t x i : ℕ) → t + x + 8 ≤ length held → i < 8 → get_or eight i 0 ≡ get_or held (t + x + i) 0 →
    turned (get_or eight i 0) ≡ get_or (numbers held) (t + (x + i)) 0
read held eight t x i fits l e =
    ap turned e ∙ sym (numbers_at held (t + x + i) (omega arith))
    ∙ ap (λ (k : ℕ). get_or (numbers held) k 0) (let h : t + x + i ≡ t + (x + i) = omega arith in h)

greatest : (v g a b d a' b' d' : ℕ) → v ≡ max g d → g ≡ max a b → a ≡ a' → b ≡ b' → d ≡ d' → v ≡ max (max a' b') d'
greatest v g a b d a' b' d' ev eg ea eb ed = ev ∙ rw (eg, ea, eb, ed)

pub returns : goal.returns
returns c =
    let h = c.args.held.now in
    let t = c.args.taps in
    let x = c.args.x in
    record {
      is = λ i l.
          greatest _ _ _ _ _ _ _ _ (c.greater-2.ensures.is i l) (c.greater.ensures.is i l)
          (read h c.eight_at.result t.t0 x i c.requires.0 l (c.eight_at.ensures i l))
          (read h c.eight_at-2.result t.t1 x i c.requires.1 l (c.eight_at-2.ensures i l))
          (read h c.eight_at-3.result t.t2 x i c.requires.2 l (c.eight_at-3.ensures i l));
    }
