-- The lemmas about tokens.
pub mod Scanning
pub mod Letters
pub mod Escaping
pub mod Quoting
pub mod Digits
pub mod Counting
pub mod Columns
pub mod Boundaries
pub mod Runs
pub mod Backwards
pub mod Searching
pub mod Steps
pub mod Stops
pub mod Tokens
pub mod Answering
pub mod Within
pub mod InsideSteps
pub mod OutsideSteps
pub mod OneCut
pub mod SomeCut
pub mod Kept
pub mod Slices
pub mod Order
pub mod Pairs
pub mod Examples
mod Occurrences
mod Stretches
mod Plain
mod Cursors
mod Ends
mod RawTexts
pub mod Elsewhere
