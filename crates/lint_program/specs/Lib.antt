pub mod Colours
pub mod Messages
