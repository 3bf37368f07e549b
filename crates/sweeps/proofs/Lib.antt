pub mod SweepLaws
pub mod DoorTests
pub mod OppositeLaws
