-- Names for what the private contracts share. None gives anything a meaning: the laws equate each with the rules.
pub mod Line
pub mod Gather
pub mod Tests
