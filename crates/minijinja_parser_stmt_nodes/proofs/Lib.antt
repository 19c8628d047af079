pub mod Aliases
pub mod Calls
