pub mod Bits
pub mod Additive
pub mod Products
pub mod Laws
pub mod Inverses
pub mod Blocks
