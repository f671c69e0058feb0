pub mod EditedLines
pub mod Helps
pub mod PlusSigns
pub mod ShownLines
