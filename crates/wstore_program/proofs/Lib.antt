pub mod Performed
pub mod Streamed
pub mod Shells
pub mod Chosen
