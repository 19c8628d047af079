pub mod Children
pub mod Nodes
pub mod private
