pub mod Times
pub mod Before
