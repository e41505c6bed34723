pub mod Time
pub mod Limits
pub mod Words
