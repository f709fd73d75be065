pub mod Asks
pub mod Program
pub mod Serves
pub mod Statuses
