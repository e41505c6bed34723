pub mod Joined
pub mod Right
pub mod Strings
pub mod Tallies
