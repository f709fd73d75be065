pub mod Rows
pub mod Reaching
