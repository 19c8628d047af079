-- What the crate says of its own private functions.
pub mod LeftOpen
pub mod Lists
pub mod Statements
