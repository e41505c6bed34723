pub mod Marks
pub mod Times
pub mod Until
