-- What the crate says of its own private functions.
pub mod AtAnswers
pub mod AtOptions
pub mod AtUsage
