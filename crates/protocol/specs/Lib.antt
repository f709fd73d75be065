pub mod Counting
pub mod Logs
pub mod History
pub mod Words
pub mod Moves
pub mod Invariants
pub mod Growth
pub mod Laws
