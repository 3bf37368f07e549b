pub mod Entries
pub mod Refusals
pub mod History
pub mod WorkedHistories
