pub mod Mentions
pub mod Occurrences
pub mod Segments
pub mod private
