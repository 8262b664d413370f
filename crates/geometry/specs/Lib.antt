-- The definitions that the contracts of `geometry` and of the crates above cite.
pub mod Number
pub mod Ring
pub mod Boxes
pub mod Cells
pub mod Area
pub mod Coordinates
