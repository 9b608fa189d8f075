-- Laws that the proofs of texels, rows and pictures cite.
pub mod Counted
pub mod Formats
pub mod Lengths
pub mod LinearCalls
pub mod One
pub mod Outcomes
pub mod Placed
pub mod Plans
pub mod Refusals
pub mod Sources
pub mod Tables
pub mod Texels
pub mod Told
pub mod Trails
