-- Laws that the proofs of the crate cite, and the theorems of one answer.
pub mod Within
pub mod Joined
pub mod Differ
pub mod Pairs
pub mod Bytes
pub mod Words
pub mod Axes
pub mod Spans
pub mod Reached
pub mod Asked
pub mod Short
pub mod Lanes
pub mod One
