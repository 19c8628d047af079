pub mod internal
pub mod private
