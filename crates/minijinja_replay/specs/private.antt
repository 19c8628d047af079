-- What the crate says of its own private functions.
pub mod AtMachine
pub mod AtRuns
