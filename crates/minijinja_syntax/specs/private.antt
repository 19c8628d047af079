-- What the crate says of its own private functions.
pub mod Delimiters
pub mod SyntaxFields
pub mod DefaultStarts
pub mod FirstBytes
