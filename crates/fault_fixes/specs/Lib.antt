pub mod Edits
pub mod Fixing
pub mod Rounds
pub mod Losing
pub mod SeenEdits
