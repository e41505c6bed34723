pub mod Answers
pub mod Cuts
pub mod Cutting
pub mod Find
pub mod Parts
pub mod Payloads
pub mod Returns
