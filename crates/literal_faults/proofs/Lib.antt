pub mod Cuts
pub mod Digits
pub mod Literals
pub mod Snippets
pub mod OneFault
pub mod Reading
