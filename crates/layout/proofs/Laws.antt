-- The laws of layouts, by subject.
pub mod Coordinates
pub mod Counting
pub mod Rings
pub mod Records
pub mod Answers
pub mod Passed
pub mod Tables
pub mod Accepted
pub mod Cases
