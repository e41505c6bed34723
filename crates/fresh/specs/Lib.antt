pub mod Fresh
pub mod Start
