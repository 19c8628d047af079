pub use Rattle.minijinja_code_parts.specs.Hint
pub mod BlockLists
pub mod BlockMarks
pub mod Building
pub mod Generator
pub mod internal
pub mod private
