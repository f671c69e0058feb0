pub mod Views
pub mod Spelling
