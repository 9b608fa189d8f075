-- What the contracts of texels, rows and pictures cite beside the rules; the four calls as one.
pub mod Formats
pub mod Sizes
pub mod Steps
pub mod Tables
pub mod Kinds
pub mod Rows
pub mod Asked
pub mod Linear
