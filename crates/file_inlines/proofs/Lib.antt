pub mod Calling
pub mod Literals
pub mod MovedCalls
pub mod Naming
pub mod Sorting
pub mod Unbroken
pub mod UnreadCalls
