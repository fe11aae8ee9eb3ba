pub mod Views
pub mod ViewLaws
pub mod Memory
pub mod StoreLaws
