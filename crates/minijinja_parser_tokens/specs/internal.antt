-- What crates of this repository say to each other, and users need not believe.
pub mod Forms
pub mod Marks
pub mod Reads
pub mod Levels
