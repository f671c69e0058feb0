pub mod Angles
pub mod Embedding
pub mod MovedArguments
pub mod MovedForms
pub mod Operands
pub mod PathWords
pub mod Texts
