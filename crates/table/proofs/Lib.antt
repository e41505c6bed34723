pub mod Facts
pub mod Filled
pub mod Stored
