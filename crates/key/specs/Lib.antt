-- What the contracts inside the crate cite beside the rules.
pub mod Notes
pub mod Offer
pub mod Words
