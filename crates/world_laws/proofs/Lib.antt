pub mod Examples
pub mod Asked
pub mod Preparations
pub mod Moves
pub mod Replies
pub mod Shapes
