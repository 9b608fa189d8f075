-- Laws of this crate that belong to no one function.
pub mod Lines
pub mod Listed
pub mod One
pub mod Parts
pub mod Pieces
