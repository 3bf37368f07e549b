-- `lay_keys` meets its contract: the keys are filled where all tests pass.
use mathlib.Core.Path.{sym, ◌∙◌}
use Rattle.directions.proofs.DoorLaws.{laying, laid}
use Rattle.directions.proofs.keys.lay_keys.Goals as goal

pub invariant_of-fill_keys : goal.invariant_of-fill_keys
invariant_of-fill_keys c =
    record { kept_on = rw c.frame-frame.ensures (laying _ _ _ _ _ _ (sym c.lays_keys.ensures ∙ c.if-not-lays_keys.false)).0.kept }

pub fill_keys-requires : goal.fill_keys-requires
fill_keys-requires c =
    let k = laying _ _ _ _ _ _ (sym c.lays_keys.ensures ∙ c.if-not-lays_keys.false) in
    let f = c.frame-frame.ensures in (rw (f, k.0.area) k.2, k.1 ∙ sym (rw f k.0.area))

pub returns : goal.returns
returns c =
    let told = c.lays_keys.ensures in
    let passed = c.if-not-lays_keys.false in record { value = sym passed ∙ told; either = laid _ _ _ _ _ _ _ _ _ (laying _ _ _ _ _ _ (sym told ∙ passed)).0 c.frame-frame.ensures c.fill_keys.ensures.between c.fill_keys.ensures.small_kept }
