pub mod Stacks
pub mod Doors
