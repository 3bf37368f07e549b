-- the contract of the survey
pub mod Surveying
-- what private contracts cite besides
pub mod Buffers
pub mod Steps
