pub mod CallLists
pub mod Files
pub mod Findings
pub mod FormWords
pub mod Givens
pub mod Macros
pub mod Readings
pub mod Reports
