pub mod Escapes
pub mod Words
pub mod Lines
pub mod Texts
pub mod Json
pub mod Sarif
