-- The laws of lists, by subject.
pub mod Laws
