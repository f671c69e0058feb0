pub mod Rules
pub mod Suggestions
