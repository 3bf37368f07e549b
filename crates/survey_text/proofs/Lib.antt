-- a line, the reader's rows and its size
pub mod NextLine
pub mod Verdicts
pub mod Rows
pub mod Heads
-- what is asked, and the worked texts
pub mod Requests
pub mod WorkedTexts
