-- The laws of names, by subject.
pub mod Bytes
pub mod Library
pub mod Order
pub mod Fields
pub mod Names
pub mod Patterns
pub mod Tables
pub mod Cases
