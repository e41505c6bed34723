pub mod Again
pub mod Converse
pub mod Exactly
pub mod Readings
pub mod Text
