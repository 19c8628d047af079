-- What the crate says of its own private functions.
pub mod Made
pub mod Nests
pub mod Levels
pub mod Primaries
pub mod Texts
pub mod Turns
