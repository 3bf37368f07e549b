pub mod CorrectedLevels
pub mod FirstFaults
pub mod CorrectionVerdicts
