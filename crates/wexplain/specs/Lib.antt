pub mod Items
pub mod Places
pub mod Refusals
pub mod Stores
