pub mod Deciding
pub mod History
