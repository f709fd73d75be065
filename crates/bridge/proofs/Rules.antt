-- One file for each rule of a turn: the moves that it makes.
pub mod Say
pub mod Want
pub mod Tick
pub mod Terms
pub mod Vote
pub mod Prepare
pub mod VoteReply
pub mod Applying
pub mod Call
pub mod Append
pub mod Matched
pub mod Ask
pub mod Answer
