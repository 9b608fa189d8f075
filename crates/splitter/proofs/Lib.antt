-- Laws of bodies, of their ways, and of what is known of the groups; and that a split has one answer.
pub mod Bodies
pub mod Differ
pub mod Ways
pub mod Groups
pub mod One
