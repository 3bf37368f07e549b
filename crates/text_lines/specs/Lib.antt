-- section 6 of document 01: the bytes of a line
pub mod Bytes
pub mod Format
-- what the code's contracts cite besides
pub mod Answers
