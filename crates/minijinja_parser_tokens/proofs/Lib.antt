pub mod Taking
pub mod Turned
mod InView
mod Naming
mod Comparisons
