-- String literals: the units of a content, their values and where they are.
pub mod ContentPlaces
pub mod Contents
pub mod Edges
pub mod Ends
pub mod Meanings
pub mod Places
pub mod Plain
pub mod Prefixes
pub mod Spelling
pub mod Texts
pub mod Unicode
pub mod UnitLaws
pub mod Widths
