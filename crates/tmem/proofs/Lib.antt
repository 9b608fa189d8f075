-- Laws of the written record; of stores and of their places, of a word load, its eight bytes and its tally, of runs of words, and of rows
-- of entries; what a load that is not refused may count on, and the loads as runs of words; the theorems of one answer.
pub mod Halfwords
pub mod Carry
pub mod Indices
pub mod Places
pub mod PastEnd
pub mod EightBytes
pub mod Taken
pub mod Rows
pub mod Runs
pub mod Within
pub mod Picked
pub mod One
