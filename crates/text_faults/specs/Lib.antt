pub mod Texts
pub mod Spots
pub mod Words
pub mod Views
