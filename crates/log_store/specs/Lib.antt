pub mod Replays
pub mod Stores
