-- What the crate says of its own private functions.
pub mod IntegerParts
pub mod TextForms
pub mod EqualContents
