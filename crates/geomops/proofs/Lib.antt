-- The laws of `geomops`, by subject, and how near a computed crossing is to the exact one.
pub mod Laws
