pub mod Rows
pub mod Labels
pub mod Margins
pub mod Long
pub mod LongSigns
pub mod Marks
pub mod Signs
