-- What the contracts inside the crate cite beside the rules.
pub mod Marks
pub mod Part
pub mod Run
pub mod Reasons
pub mod Asked
