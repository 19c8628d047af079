pub mod Adding
pub mod Listing
pub mod Items
pub mod StatementNodes
pub mod ExpressionNodes
