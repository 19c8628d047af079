pub mod Hint
pub mod internal
pub mod private
