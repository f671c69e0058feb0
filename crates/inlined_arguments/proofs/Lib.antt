pub mod Apart
pub mod CleanPieces
pub mod Comparing
pub mod Keeping
pub mod Naming
pub mod Widths
