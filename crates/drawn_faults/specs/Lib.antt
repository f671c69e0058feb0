pub mod Diagnostics
pub mod SeenDiagnostics
pub mod Drawing
pub mod Shown
