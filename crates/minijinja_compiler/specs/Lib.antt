pub mod Headline
pub mod Identifiers
pub mod OwnedErrors
pub mod Utf8Delimiters
