pub mod Glyphs
pub mod Painting
pub mod Places
pub mod Frames
pub mod Windows
pub mod Positions
pub mod Lines
