pub mod Started
pub mod Table
pub mod Relay
pub mod Lent
