pub mod Refused
pub mod View
