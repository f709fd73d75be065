-- The rules of a turn, one file for each. A rule makes of a node another node, and the messages that it sends, in order.
pub mod Acts
pub mod Say
pub mod Terms
pub mod Tick
pub mod Vote
pub mod Prepare
pub mod VoteReply
pub mod Want
pub mod Applying
pub mod Call
pub mod Append
pub mod Matched
pub mod Ask
pub mod Answer
