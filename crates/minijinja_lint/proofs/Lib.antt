pub mod Firsts
pub mod Unused
pub mod Sorting
pub mod Collected
