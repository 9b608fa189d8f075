-- What the contract of the marks cites.
pub mod Number
