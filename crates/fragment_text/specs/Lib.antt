pub mod Texts
pub mod Splitting
pub mod Said
pub mod Spelling
pub mod Joining
pub mod Faults
pub mod Kept
