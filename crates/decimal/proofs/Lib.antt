-- Laws of this crate that belong to no one function.
pub mod Decimals
pub mod Digits
pub mod One
pub mod Texts
pub mod Writes
