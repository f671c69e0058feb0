pub mod Texts
pub mod Lines
pub mod Harmless
mod LineEnds
