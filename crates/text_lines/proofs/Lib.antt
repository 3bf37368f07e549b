-- numbers, and lists of them
pub mod Digits
pub mod Parts
-- names, and lines
pub mod Names
pub mod Lines
