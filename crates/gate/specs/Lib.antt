pub mod Passes
pub mod Gate
pub mod Tests
