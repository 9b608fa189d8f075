-- Demand 3 as theorems, and the laws that the key's code is proved by.
pub mod Notes
pub mod Steps
pub mod WordLaws
pub mod IndexLaws
pub mod One
pub mod Lift
pub mod Flips
pub mod Inside
pub mod Period
pub mod Called
pub mod Cuts
pub mod Offers
pub mod Within
pub mod Demand3
pub mod Shown
pub mod Left
