pub mod Uses
pub mod Entries
pub mod Report
pub mod Names
pub mod Reading
pub mod Views
pub mod Collection
