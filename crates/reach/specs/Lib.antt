-- What the contracts inside the crate cite beside the rules.
pub mod Words
pub mod Span
pub mod Slots
