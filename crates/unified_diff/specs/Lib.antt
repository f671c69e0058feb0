pub mod Diffs
pub mod Rows
