-- The definitions of this crate.
pub mod Replay
pub mod Meant
pub mod private
