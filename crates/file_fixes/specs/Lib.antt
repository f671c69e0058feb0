pub mod AllFaults
pub mod FaultSearch
pub mod FileFixes
pub mod Mending
pub mod Outside
pub mod Walk
