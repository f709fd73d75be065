pub mod Polynomials
pub mod Fragments
pub mod Determined
pub mod Roots
pub mod Rebuilding
pub mod Answers
pub mod Registers
