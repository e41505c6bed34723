pub mod Joining
pub mod Strings
