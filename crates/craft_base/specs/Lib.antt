pub mod Shape
pub mod Parts
pub mod Shapes
pub mod Knowledge
