-- Laws of this crate that belong to no one function.
pub mod Made
pub mod One
