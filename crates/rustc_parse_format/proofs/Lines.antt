-- The lines of a source literal, and the places of its placeholders.
pub mod LastLines
pub mod LineLaws
pub mod LinesInside
pub mod RangeLists
pub mod StateLines
