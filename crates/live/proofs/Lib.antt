pub mod Before
pub mod Times
