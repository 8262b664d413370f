-- The laws of names, by subject.
pub mod Laws
