pub mod Keywords
pub mod Variables
pub mod Values
pub mod Meaning
pub mod Edits
pub mod Conditions
pub mod Inlining
pub mod Views
