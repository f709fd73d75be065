pub mod Asking
pub mod Members
pub mod Telling
