pub mod Comparisons
pub mod Plans
