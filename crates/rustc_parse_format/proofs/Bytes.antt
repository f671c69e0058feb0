-- Texts by their bytes: the longest prefix of a class, found byte by byte or a block at a time.
pub mod BlockFronts
pub mod ByteFronts
pub mod CharacterStarts
pub mod Counting
pub mod LaneBits
pub mod StopLanes
pub mod Texts
pub mod Unchanged
pub mod WordBytes
