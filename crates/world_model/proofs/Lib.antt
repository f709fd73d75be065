mod Examples
mod OutputExamples
mod CommitExamples
mod ReplicationExamples
mod CodedExamples
mod ClientExamples
mod WantExamples
pub mod Frames
pub mod Positions
pub mod Turns
pub mod Stops
pub mod Recorded
pub mod Wanting
pub mod Applying
pub mod Ranges
pub mod Members
pub mod Preparing
pub mod Inputs
pub mod Numerals
pub mod Runs
pub mod Spelling
pub mod ByteWords
pub mod CallWords
pub mod Requests
pub mod InnerLines
pub mod ScheduleLines
pub mod BadLines
pub mod Readings
