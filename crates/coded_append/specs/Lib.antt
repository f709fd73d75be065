pub mod Modes
pub mod Starts
pub mod Batches
pub mod Ways
pub mod Laws
