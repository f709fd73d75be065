pub mod Entries
mod Completing
mod Replaying
pub mod Opened
