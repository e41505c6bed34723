pub mod Descriptions
pub mod Cases
