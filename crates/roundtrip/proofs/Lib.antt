-- From the stores of a word to the theorem: what a tile load stores, its plain picture shows.
pub mod Last
pub mod Word
pub mod Rows
pub mod Texels
pub mod RoundTrip
pub mod Calls
pub mod Example
