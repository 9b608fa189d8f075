-- What the private contracts have in common.
pub mod Bodies
pub mod Way
