pub mod Holding
pub mod Marking
