-- What the contracts of the exports cite: their answers as the rules have them, and the version.
pub mod Version
pub mod View
