-- The lemmas of this crate.
pub mod AnswerLines
pub mod Commands
pub mod Limits
pub mod PrintedLines
pub mod Requests
pub mod Statuses
pub mod Told
pub mod Written
