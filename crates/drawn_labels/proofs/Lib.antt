pub mod MarkLemmas
pub mod HarmlessRows
pub mod HarmlessMarks
pub mod SignLaws
pub mod LongLaws
