-- What crates of this repository say to each other, and users need not believe.
pub mod AtGenerator
pub mod OpenBlocks
