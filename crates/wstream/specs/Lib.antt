pub mod Messages
pub mod Inboxes
pub mod Laws
