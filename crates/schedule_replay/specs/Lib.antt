pub mod Actions
pub mod Faults
pub mod Network
pub mod Replaying
pub mod Seats
pub mod Told
pub mod Worlds
