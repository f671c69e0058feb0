pub mod Cuts
pub mod Firsts
pub mod OneAnswer
mod Quoting
mod Harmless
pub mod SomeFaults
