pub mod Text
pub mod Number
