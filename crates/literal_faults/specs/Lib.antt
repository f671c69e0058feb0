pub mod Escapes
pub mod Faults
pub mod Margins
pub mod Stops
pub mod Words
