-- `fits_plate` meets its contract: its tests are those of `fits`, in the same order.
use borrow.Author.Tests.{le-leb, lt-leb}
use Rattle.directions.specs.Doors.{fits}
use Rattle.directions.proofs.fits.fits_plate.Goals as goal

pub returns-then-setting-lt1 : goal.returns-then-setting-lt1
unfolding fits
returns-then-setting-lt1 c = rw (lt-leb 1 _ c.if-setting-lt1.true)

pub returns-then-setting-gt-MAX_LENGTH : goal.returns-then-setting-gt-MAX_LENGTH
unfolding fits
returns-then-setting-gt-MAX_LENGTH c = rw (le-leb 1 _ c.if-setting-lt1.false, lt-leb _ 1024 c.if-setting-gt-MAX_LENGTH.true)

pub returns-then-setting-gt-MAX_GAPS : goal.returns-then-setting-gt-MAX_GAPS
unfolding fits
returns-then-setting-gt-MAX_GAPS c = rw (le-leb 1 _ c.if-setting-lt1.false, le-leb _ 1024 c.if-setting-gt-MAX_LENGTH.false, lt-leb _ 8 c.if-setting-gt-MAX_GAPS.true)

pub returns : goal.returns
unfolding fits
returns c =
    rw (le-leb 1 _ c.if-setting-lt1.false, le-leb _ 1024 c.if-setting-gt-MAX_LENGTH.false, le-leb _ 8 c.if-setting-gt-MAX_GAPS.false, c.span_of.ensures)
