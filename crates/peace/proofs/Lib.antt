pub mod Alone
pub mod Always
pub mod Exactly
pub mod Peace
pub mod Walked
