pub mod Headings
pub mod Choosing
pub mod Usable
pub mod Trails
pub mod Doors
