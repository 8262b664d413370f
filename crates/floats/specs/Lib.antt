pub mod Kinds
pub mod Scaled
