pub mod Again
pub mod Stepping
pub mod Walk
