pub mod TokenStreams
pub mod internal
pub mod private
