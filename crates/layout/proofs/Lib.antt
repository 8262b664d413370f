-- The laws of layouts, by subject.
pub mod Laws
