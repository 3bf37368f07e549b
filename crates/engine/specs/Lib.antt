pub mod Finishing
pub mod SievingTwice
