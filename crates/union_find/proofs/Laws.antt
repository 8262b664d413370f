-- The laws of `union_find`, by subject.
pub mod Forest
pub mod Compression
pub mod Ranks
pub mod Fresh
pub mod Hanging
pub mod Joins
pub mod Operations
pub mod NewRoots
pub mod Numbers
