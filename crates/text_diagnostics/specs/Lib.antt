pub mod Ids
pub mod Suggestions
