pub mod Peers
pub mod Frames
pub mod Reading
pub mod Whole
pub mod Spelled
pub mod Heads
