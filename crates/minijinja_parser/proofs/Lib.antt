pub mod Wholes
pub mod NoTokens
pub mod Begun
pub mod Unplaced
pub mod Endings
