pub mod PlanSizes
pub mod FormFacts
pub mod RowForms
pub mod FormTests
pub mod LineForms
pub mod RankForms
pub mod FormLaws
pub mod FollowedSizes
