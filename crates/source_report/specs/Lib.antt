pub mod EditViews
pub mod Suggestions
