pub mod Collecting
pub mod Marks
pub mod TextFaults
