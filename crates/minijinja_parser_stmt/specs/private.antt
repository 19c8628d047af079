-- What the crate says of its own private functions.
pub mod Parses
pub mod Targets
pub mod Bodies
pub mod Blanks
pub mod Blocks
pub mod Macros
pub mod Modules
