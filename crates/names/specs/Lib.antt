-- The definitions of names, of the fields that hold them and of the tables.
pub mod Bytes
pub mod Fields
pub mod Tables
pub mod Markers
