mod Ups
mod Fronts
mod Placed
mod Orders
mod Stored
