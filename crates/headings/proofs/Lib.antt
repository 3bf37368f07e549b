pub mod Rooms
pub mod Neighbours
pub mod Trails
pub mod Ahead
pub mod Directions
pub mod DoorTests
