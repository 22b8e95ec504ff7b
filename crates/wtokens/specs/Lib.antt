pub mod Words
pub mod Notation
