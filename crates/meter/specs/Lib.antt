pub mod Numbers
pub mod Corrections
pub mod Eighths
pub mod Correcting
pub mod WorkedFigures
