pub mod Refusals
pub mod History
