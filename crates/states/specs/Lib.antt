pub mod Runs
pub mod Rows
pub mod States
pub mod Holding
pub mod Doors
