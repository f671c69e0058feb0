mod Numbers
mod Firsts
mod Marked
mod Naming
pub mod Noting
mod Lacked
mod Reports
pub mod Unique
pub mod Deciding
mod ReportRows
mod NamedArguments
pub mod Empty
