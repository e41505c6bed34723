pub mod Fits
pub mod Listed
pub mod Modest
pub mod Runs
