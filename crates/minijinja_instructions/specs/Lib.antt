-- The definitions of this crate.
pub mod InstructionLists
pub mod InstructionWords
pub mod Instructions
pub mod Lending
pub mod MarkLists
pub mod Marks
pub mod RunLists
pub mod Runs
pub mod private
