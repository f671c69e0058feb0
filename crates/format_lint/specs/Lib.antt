pub mod Colours
pub mod Findings
pub mod Lint
pub mod SeenLint
