pub mod Run
pub mod Alone
pub mod Exactly
pub mod Always
pub mod Walked
