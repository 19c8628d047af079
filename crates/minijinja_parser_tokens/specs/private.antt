-- What the crate says of its own private functions.
pub mod AtTokenStream
pub mod Refused
