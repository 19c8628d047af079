-- What the crate says of its own private functions.
pub mod LoopMarks
