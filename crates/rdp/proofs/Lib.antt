pub mod Determined
pub mod One
pub mod Refusals
