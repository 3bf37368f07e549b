-- Document 02, N2, of calls: a call of `filter`, as its contract alone tells of it, but for what the spent work buffer holds. proofs/SievingTwice.antt
-- shows what two such calls come to, the second handed what the first has left; theory/specs/SievingTwice.antt has the law itself.
use Rattle.std.specs.Prelude.{ℕ, ◌≡◌, List, length, ℤ, Result}
use Rattle.plate.specs.Opening.{filtered}
use Rattle.plate.specs.Refusals.{filter_verdict}
use Rattle.plate.specs.Answers.{answered, result_after}
use Rattle.plate.specs.declared.setting.Setting.{Setting}
use Rattle.plate.specs.declared.refusal.Refusal.{Refusal}

-- `filter` was handed a plate, was lent a result and a work buffer, and answered; the result now holds `filled`
pub record FilterCall (W H : ℕ) (s : Setting) (plate : List ℤ) (answer : Result Unit Refusal) (result filled : List ℤ) : Type 0 where
  pub work : List ℕ
  pub answers : answered answer ≡ filter_verdict W H s (length plate) (length result) (length work)
  pub fills : filled ≡ result_after answer (filtered s W H plate) result
