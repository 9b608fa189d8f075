-- Laws of this crate that belong to no one function.
pub mod Texts
pub mod Words
pub mod Counts
pub mod Lines
pub mod Caps
pub mod Gathers
pub mod Keys
pub mod Seen
pub mod Tested
pub mod Headers
pub mod Sides
pub mod Ones
pub mod Copies
pub mod Files
pub mod Numerals
pub mod Round
pub mod One
