pub mod Plan
pub mod Kept
pub mod Steps
pub mod Found
pub mod Lone
pub mod Back
pub mod Yielded
