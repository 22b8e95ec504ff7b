pub mod Words
pub mod Pending
pub mod Sent
pub mod Reads
pub mod Failing
