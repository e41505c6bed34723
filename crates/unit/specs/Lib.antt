pub mod Layout
pub mod Head
pub mod Low
pub mod Text
pub mod Again
pub mod Reads
pub mod Converse
pub mod Exactly
