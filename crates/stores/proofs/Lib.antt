pub mod ViewLaws
pub mod StoreLaws
pub mod Scans
