-- Laws by subject: what an f64 is worth, how it compares, and what rounding does to it.
pub mod Kinds
pub mod Scale
pub mod Order
pub mod Value
pub mod Distance
pub mod Integers
pub mod Rounding
pub mod Growth
pub mod Units
pub mod Equality
pub mod Sums
pub mod Products
pub mod Exactness
pub mod Commuting
pub mod Monotone
pub mod Differences
pub mod Midpoint
