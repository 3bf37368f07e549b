-- steps and walks
pub mod Steps
pub mod Moves
pub mod Walks
pub mod Cutting
-- the paths of the plate
pub mod Listed
pub mod Reversal
pub mod Shorter
pub mod Ranks
pub mod Span
pub mod Sides
-- opening and closing
pub mod Highest
pub mod Admission
pub mod Opening
pub mod Idempotent
pub mod Mirror
pub mod Longer
pub mod SievingTwice
pub mod Between
-- the decomposition
pub mod Maxima
pub mod LevelSets
pub mod Splitting
pub mod Decomposition
pub mod Terms
-- the trace
pub mod Recorded
pub mod Trace
pub mod WalksTo
pub mod Towards
-- the worked plates
pub mod WorkedPlates
