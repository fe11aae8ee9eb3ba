pub mod Bounds
pub mod Fixed
