-- What the crate says of its own private functions.
pub mod Place
pub mod Plain
pub mod AtCursor
pub mod AsciiEnds
pub mod Views
pub mod TokenPlaces
pub mod NumberPlaces
pub mod RawPlaces
pub mod Places
pub mod Found
pub mod EndBytes
pub mod States
pub mod AtTokenizer
