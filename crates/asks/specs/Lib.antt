pub mod Bar
pub mod Settled
pub mod Asked
