pub mod Delimiters
pub mod Markers
mod LineStarts
mod Building
pub mod Walking
pub mod Finding
mod Braces
