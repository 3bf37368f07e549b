-- `is_meant` goes by the target's case: an entry's key is the key, or its serial number is the number.
use Rattle.std.proofs.Common.{◌≡◌, refl, ◌∙◌}
use lib.Dec.{eqb}
use mathlib.Core.Bool.{Bool, true, false, ◌&&◌}
use Rattle.book.specs.Entries.{is_meant}
use Rattle.book.proofs.target.is_meant.Goals as goal

grouped : (a b c : Bool) → (a && (b && c)) ≡ ((a && b) && c)
grouped true b c = refl
grouped false b c = refl

pub returns-in-OfKey : goal.returns-in-OfKey
unfolding is_meant
returns-in-OfKey c =
    let k = c.in-OfKey.key in
    let e = c.args.entry in
    rw c.in-OfKey.is ((rw c.from.ensures at c.eq.ensures) ∙ grouped (eqb e.plate k.plate) (eqb e.place k.place) (eqb e.mode k.mode))

pub returns-in-OfSerial : goal.returns-in-OfSerial
unfolding is_meant
returns-in-OfSerial c = rw c.in-OfSerial.is
