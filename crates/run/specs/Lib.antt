pub mod Orders
pub mod Turns
pub mod Models
pub mod Moments
pub mod Reports
pub mod Plays
pub mod Refusals
