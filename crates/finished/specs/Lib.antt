pub mod Times
pub mod Marks
