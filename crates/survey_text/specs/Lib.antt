-- section 6 of document 01: the text that is read (its lines by text_lines), the lines that are printed, and the answer
pub mod Reading
pub mod Printing
pub mod Survey
pub mod WorkedTexts
-- what the code's contracts cite besides
pub mod Answers
pub mod Cursors
pub mod Within
