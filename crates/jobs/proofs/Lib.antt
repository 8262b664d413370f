-- What is proved of `jobs`.
pub mod Digits
