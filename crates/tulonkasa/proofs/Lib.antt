-- Two answers of a call are the same.
pub mod Determined
pub mod One
