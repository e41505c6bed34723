pub mod Adding
pub mod Calls
pub mod Keeping
pub mod Marks
pub mod Once
pub mod Others
pub mod Steps
pub mod Worked
