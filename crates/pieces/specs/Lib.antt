-- What the contracts of the pieces cite.
pub mod Text
