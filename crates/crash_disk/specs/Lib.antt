pub mod Codes
pub mod Image
pub mod Kept
pub mod MemDisk
pub mod Noted
pub mod Replay
pub mod Stopped
pub mod Told
