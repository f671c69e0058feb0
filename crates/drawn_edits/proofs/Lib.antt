pub mod EditLines
pub mod ChangedLines
pub mod HarmlessHelps
pub mod WhiteSpace
pub mod PlusColumns
pub mod PlusLaws
pub mod PageLines
pub mod ShownLines
