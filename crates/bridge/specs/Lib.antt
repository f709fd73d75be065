pub mod Views
pub mod Traced
pub mod Agreement
pub mod Bridges
pub mod Laws
