-- What crates of this repository say to each other, and users need not believe.
pub mod Branching
pub mod Callers
pub mod Calling
pub mod Leading
pub mod NodeMarks
pub mod Outputs
pub mod Parts
