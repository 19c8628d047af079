-- What the crate says of its own private functions.
pub mod Parts
pub mod Scoped
pub mod Walked
pub mod Ways
pub mod Written
