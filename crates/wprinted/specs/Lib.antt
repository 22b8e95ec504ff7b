pub mod Printing
pub mod Beside
