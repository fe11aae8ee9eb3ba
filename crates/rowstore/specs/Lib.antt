pub mod Entries
pub mod Tables
pub mod Ordered
