pub mod Endings
pub mod Noting
pub mod Picking
pub mod Searching
pub mod Doors
