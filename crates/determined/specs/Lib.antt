pub mod Leaves
pub mod Desk
pub mod Places
pub mod Steps
pub mod Searched
pub mod Relay
pub mod Faces
