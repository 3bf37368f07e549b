-- The library's version, which include/diilvak.h has as DIILVAK_VERSION.
use Rattle.std.specs.Prelude.{ℕ}
use Rattle.plate.specs.Telling.{version_of}

-- this version, 0.6.0
abbrev pub version : ℕ
version = version_of 0 6 0
