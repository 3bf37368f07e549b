pub mod Sweeps
pub mod Doors
