-- The laws of `geomops`, by subject.
pub mod Inserting
pub mod Fronts
pub mod Crossings
pub mod Merging
pub mod Thinning
pub mod Sorted
pub mod Heights
pub mod Outside
pub mod Pairs
pub mod Pushing
pub mod Taking
pub mod Pieces
