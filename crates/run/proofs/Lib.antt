pub mod ViewOrders
pub mod Marks
pub mod Lifts
pub mod Moments
pub mod Makings
pub mod Played
pub mod Owing
