pub mod Derived
pub mod Causes
pub mod Parsing
pub mod Placing
pub mod Answers
pub mod private
