-- Two answers of a call are the same.
pub mod One
