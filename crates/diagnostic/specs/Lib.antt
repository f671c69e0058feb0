pub mod Ids
pub mod Parts
pub mod Suggestions
