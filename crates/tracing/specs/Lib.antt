pub mod Scans
pub mod Sights
pub mod Following
pub mod Finding
pub mod Drawing
