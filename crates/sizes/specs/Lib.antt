pub mod Sizes
pub mod Needs
