pub mod OneLine
pub mod Plain
pub mod ReadBack
pub mod Terminals
