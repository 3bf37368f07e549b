-- `edition_in` looks for one byte, and whether it is the digit 1 or 2: each return is a law of editions.
use native.Mathlib.Omega.{arith}
use mathlib.Core.Path.{sym}
use Rattle.text_lines.proofs.Digits.{edition_sized, edition_one, edition_two, edition_none}
use Rattle.text_lines.proofs.number.edition_in.Goals as goal

pub returns-in_default : goal.returns-in_default
returns-in_default c = sym (edition_sized _ (λ e. omega arith))

pub returns-in_default-2 : goal.returns-in_default-2
returns-in_default-2 c = sym (edition_sized _ (λ e. omega arith))

pub returns-in-49 : goal.returns-in-49
returns-in-49 c = sym (edition_one _ (omega arith) (omega arith))

pub returns-in-50 : goal.returns-in-50
returns-in-50 c = sym (edition_two _ (omega arith) (λ n. omega arith) (omega arith))

pub returns-in_default-digit : goal.returns-in_default-digit
returns-in_default-digit c = sym (edition_none _ (omega arith) (λ e. omega arith) (λ e. omega arith))
