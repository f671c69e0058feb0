-- The promises of the derived `==` and `clone`.
pub mod Clones
pub mod EqualParts
pub mod EqualPieces
pub mod Equality
