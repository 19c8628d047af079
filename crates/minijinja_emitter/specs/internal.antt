-- What crates of this repository say to each other, and users need not believe.
pub mod AtEmitter
pub mod Constants
pub mod Making
pub mod Margins
