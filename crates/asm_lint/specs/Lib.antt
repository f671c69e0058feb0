pub mod AsmFindings
pub mod Assembly
pub mod Attributes
pub mod Findings
pub mod Literals
pub mod Names
pub mod Spans
