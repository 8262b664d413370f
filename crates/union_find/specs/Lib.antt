-- What the contracts of `union_find` cite.
pub mod Forest
pub mod Table
pub mod Chain
pub mod Numbering
