-- The definitions of a layout, of its rings, and of the front door.
pub mod Bounds
pub mod Job
pub mod Rings
pub mod Coordinates
pub mod Counts
pub mod Records
pub mod Answers
pub mod Accepted
