pub mod Splitting
pub mod Pending
pub mod Replying
pub mod Runs
