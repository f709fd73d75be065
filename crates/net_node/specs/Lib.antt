pub mod Ends
pub mod Hearing
pub mod NodeRun
pub mod Runs
pub mod Sending
pub mod Serving
