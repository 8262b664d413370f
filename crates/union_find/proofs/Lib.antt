-- What is proved of `union_find`: laws by subject, and the theorems, each in a file of its name.
pub mod Laws
pub mod Steps
pub mod Chains
pub mod Numbering
