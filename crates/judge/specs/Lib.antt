pub mod Faults
pub mod Traces
pub mod Verdicts
pub mod Reports
pub mod Layouts
pub mod Printable
pub mod JobLaws
