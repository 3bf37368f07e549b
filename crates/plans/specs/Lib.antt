pub mod Plans
pub mod Forms
