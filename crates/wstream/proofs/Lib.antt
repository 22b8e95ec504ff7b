pub mod Streams
pub mod FirstMessage
