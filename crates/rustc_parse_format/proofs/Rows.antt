-- Worked examples of the definitions, each computed.
pub mod Definitions
pub mod Faults
pub mod Grammar
pub mod Identifiers
pub mod Lines
pub mod Literals
pub mod Names
pub mod Readings
pub mod Recovery
pub mod Sources
pub mod Specifications
mod Steps
pub mod Tour
