-- Which neighbour of a pixel a trace goes to where every path counts. These definitions serve contracts inside the engine only: no public contract
-- cites them.
use Rattle.std.specs.Prelude.{ℕ, ◌≤◌, Option, MatchOption}
use mathlib.Core.List.{Memᴰ}
use Rattle.headings.specs.Headings.{onward, room_at}
use Rattle.headings.specs.declared.heading.Heading.{Heading}

-- q is a neighbour of p and has room for m more steps
pub record Fitting (h : Heading) (p m q : ℕ) : Type 0 where
  pub near : Memᴰ q (onward h p)
  pub roomy : m ≤ room_at h q

-- r is such a neighbour; or there is none, and no neighbour has the room
abbrev pub Chosen : Heading → ℕ → ℕ → Option ℕ → Type 0
Chosen h p m r = MatchOption r ((q : ℕ) → Fitting h p m q → ⊥) (Fitting h p m)
