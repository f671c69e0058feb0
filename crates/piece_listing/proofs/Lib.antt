mod Texts
mod Cuts
mod ListNumbers
mod Rows
mod Literals
pub mod OneLiteral
mod OneAnswer
mod Empty
mod WordRows
