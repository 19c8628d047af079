pub mod Adding
pub mod Constants
pub mod Counting
pub mod FoundNames
pub mod Leading
