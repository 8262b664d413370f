-- The laws of `geometry`, by subject.
pub mod Laws
