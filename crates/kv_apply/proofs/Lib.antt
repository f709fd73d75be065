pub mod Keys
pub mod Numbers
pub mod Standing
pub mod Once
pub mod Logs
pub mod Examples
pub mod Within
