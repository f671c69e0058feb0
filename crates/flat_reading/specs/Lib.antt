pub mod Meaning
pub mod Events
pub mod Progress
pub mod ErrorRecords
pub mod Interface
