-- The definitions of values that contracts cite.
pub mod Values
pub mod Integers
pub mod Outcomes
pub mod ValueContents
pub mod ValueComparison
pub mod ValueWords
pub mod ValueFunctions
pub mod ValueViews
pub mod MapLaws
pub mod private
