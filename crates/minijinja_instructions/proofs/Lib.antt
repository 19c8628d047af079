pub mod Running
pub mod Marking
pub mod Lent
pub mod Reaching
pub mod EachOnce
pub mod Scans
pub mod Printing
