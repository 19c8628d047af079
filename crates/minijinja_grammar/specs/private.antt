-- What the crate says of its own private functions.
pub mod Ensured
pub mod Sound
