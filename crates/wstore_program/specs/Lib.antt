pub mod Feeding
pub mod Program
pub mod Performing
pub mod Statuses
pub mod Shelling
pub mod Working
