pub mod Refusals
pub mod Lengths
