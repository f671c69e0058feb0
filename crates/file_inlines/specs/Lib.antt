pub mod Sources
pub mod Terms
pub mod CallInlines
pub mod FileInlines
