-- What the proofs of texdec cite: the nibble's bound, the pairs by their sizes, an index by its part, and ready texels.
pub mod Halves
pub mod Nibbles
pub mod One
pub mod Palettes
pub mod Pictures
pub mod Ready
pub mod Sizes
