-- what a reader has to believe: demand 3, sieving twice, plates between two levels, and the worked plates
pub mod Trace
pub mod SievingTwice
pub mod Between
pub mod WorkedPlates
-- what serves the engine's inner contracts and the laws
pub mod Walks
pub mod Ranks
pub mod BestWalks
pub mod Modes
