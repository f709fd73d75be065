pub mod Changes
pub mod Decisions
pub mod Keeping
pub mod Pages
pub mod Rebuilders
pub mod Solutions
pub mod Standing
pub mod Verdicts
