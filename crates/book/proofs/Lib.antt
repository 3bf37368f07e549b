pub mod Taking
pub mod Deciding
pub mod Standing
pub mod History
pub mod WorkedHistories
