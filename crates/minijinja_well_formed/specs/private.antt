-- What the crate says of its own private functions.
pub mod ExpressionTests
pub mod FilterParts
pub mod StatementTests
pub mod BlockNames
pub mod Sizes
