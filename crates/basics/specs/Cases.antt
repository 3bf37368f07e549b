-- What is promised by cases.
use Rattle.std.specs.Prelude.{Bool, true, false}

-- one thing where a test passes, another where it fails
abbrev pub EitherBy : Bool → Type 0 → Type 0 → Type 0
EitherBy true P Q = P
EitherBy false P Q = Q
