-- The definitions of lists that the contracts of every crate cite.
pub mod Marks
pub mod Fills
pub mod Front
pub mod Scans
pub mod Gathered
pub mod All
