-- The laws of lists, by subject.
pub mod Fills
pub mod Front
pub mod Scans
pub mod Gathered
pub mod Each
pub mod Behind
pub mod All
pub mod Tests
