pub mod GivenUp
pub mod Desk
pub mod Effects
