-- What a run keeps lists of: what was proposed, removed and committed.
pub mod Standing
pub mod Kept
pub mod Cutting
pub mod Completing
pub mod Values
pub mod Deciding
pub mod Taken
pub mod Plain
pub mod Sent
pub mod Adding
pub mod Leading
pub mod Filling
pub mod Asking
pub mod Called
pub mod Committed
pub mod Append
pub mod Turn
