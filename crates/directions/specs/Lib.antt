pub mod Plans
pub mod Numbers
pub mod Gathering
pub mod Traces
pub mod Doors
