pub mod HarmlessDrawings
pub mod HarmlessDiagnostics
pub mod Indents
pub mod ShownLaws
