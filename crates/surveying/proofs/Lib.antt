-- the answer's lines: numbers, lists and writes in a row, and how long they are
pub mod Decimals
pub mod SignedDecimals
pub mod Written
pub mod Parted
pub mod OutLines
pub mod Lengths
-- the survey: what an accepted text asks for, how the filter and the trace are judged, and the answer
pub mod Asked
pub mod Judged
pub mod Filtered
pub mod Traces
pub mod Answers
