pub mod Again
pub mod Described
