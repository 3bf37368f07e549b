pub mod RaiseLaws
pub mod SweepLaws
pub mod FinishLaws
pub mod FilteredLaws
pub mod SievingTwice
pub mod SievedCalls
