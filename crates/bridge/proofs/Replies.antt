-- What clients are told: it is told of the commands that are committed.
pub mod Lists
pub mod Outcomes
pub mod Standing
pub mod Told
pub mod Calls
pub mod Reads
pub mod Applied
pub mod Answering
pub mod Filling
pub mod Rules
pub mod Asking
pub mod Dates
pub mod World
pub mod Runs
