pub mod Keywords
pub mod Expressions
pub mod Operators
pub mod Commas
pub mod Forms
pub mod Generics
pub mod Paths
