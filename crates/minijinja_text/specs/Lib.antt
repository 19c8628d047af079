pub mod Texts
pub mod Quotes
