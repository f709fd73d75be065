-- How a preparation ends: what is left to decide, who prepares waits, and what was shown is kept.
pub mod Left
pub mod Waiting
pub mod Shown
pub mod Asked
