-- What the crate says of its own private functions.
pub mod AbsentParts
pub mod Comparing
pub mod ChainMarks
pub mod Filtering
pub mod Operating
pub mod OperatorMarks
pub mod PendingNodes
