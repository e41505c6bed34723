pub mod Found
pub mod Words
pub mod Step
pub mod Walk
pub mod Again
