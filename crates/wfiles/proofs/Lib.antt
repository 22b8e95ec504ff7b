pub mod Listing
pub mod Noting
pub mod Places
