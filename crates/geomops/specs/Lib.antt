-- The definitions that the contracts of `geomops` and of the crates above cite.
pub mod Edge
pub mod Sorted
pub mod Crossings
pub mod Heights
pub mod Rects
pub mod Pieces
pub mod Work
pub mod Rounding
