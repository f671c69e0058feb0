-- Source literals: which snippet is one, and where the characters of the input are in it.
pub mod Contents
pub mod Decided
pub mod Ends
pub mod Escapes
pub mod Gaps
pub mod Moves
pub mod Order
pub mod Places
pub mod Plain
pub mod PlainPlaces
pub mod Steps
pub mod Unescaped
pub mod Units
pub mod Worlds
