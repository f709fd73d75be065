pub mod Commands
pub mod Services
pub mod Laws
