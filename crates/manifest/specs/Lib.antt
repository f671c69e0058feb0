pub mod Manifest
pub mod Settings
