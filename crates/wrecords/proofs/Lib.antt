pub mod Words
pub mod Shapes
pub mod Lines
pub mod Cutting
