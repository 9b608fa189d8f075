-- Laws of this crate that belong to no one function.
pub mod AtKeys
mod ByTests
mod Chunks
mod Held
mod Lent
mod Loaded
pub mod One
mod OneRecord
mod Outcomes
mod Pictures
pub mod Ran
mod Ready
mod Runs
mod Says
