pub mod Calls
pub mod Crashes
pub mod Keeping
pub mod Spoiling
pub mod Stopping
pub mod Unit
pub mod Writing
