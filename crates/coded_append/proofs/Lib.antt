pub mod Lacking
pub mod Places
pub mod Sizes
pub mod Sending
pub mod Most
pub mod Ranges
pub mod First
