-- The laws of `geometry`, by subject.
pub mod Floor
pub mod Size
pub mod Area
pub mod Boxes
pub mod Coordinates
