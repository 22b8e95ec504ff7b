pub mod Streams
pub mod Deliveries
pub mod Batches
