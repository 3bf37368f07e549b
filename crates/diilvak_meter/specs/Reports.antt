-- The meter's figures as C has them, and the library's version, which include/diilvak_meter.h has as DIILVAK_METER_VERSION.
use Rattle.std.specs.Prelude.{ℕ, cond, eqb}
use Rattle.plate.specs.Telling.{version_of}
use Rattle.meter.specs.declared.figure.Figure.{Figure}
use Rattle.meter.specs.declared.figure.Figure.TheVariants.{Steady, Drifting}
use Rattle.meter.specs.declared.Meter.{Meter}
use Rattle.diilvak_meter.specs.declared.Reported.{Reported}
use Rattle.diilvak_meter.specs.declared.Report.{Report}

-- this version, 0.1.0
abbrev pub version : ℕ
version = version_of 0 1 0

-- a figure is steady where `drifting` is 0, and its second number is then not looked at
abbrev pub figure_of : Reported → Figure
figure_of r = cond (eqb r.drifting 0) (Steady r.first) (Drifting r.first r.second)

abbrev pub meter_of : Report → Meter
meter_of r = record { lamp = figure_of r.lamp; dark = figure_of r.dark }
