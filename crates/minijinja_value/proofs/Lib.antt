-- The lemmas about values.
mod Quotes
mod Printing
pub mod MapViews
mod MapBuilding
mod Emptiness
pub mod Comparisons
mod HasText
mod Powers
pub mod DistinctKeys
pub mod SymmetricEquality
