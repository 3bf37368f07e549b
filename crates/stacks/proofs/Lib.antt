pub mod StackLaws
pub mod DoorTests
