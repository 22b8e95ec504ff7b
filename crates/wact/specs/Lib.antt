pub mod Outcomes
pub mod Queries
pub mod Streams
pub mod Delivering
pub mod Acts
pub mod Opening
pub mod Laws
