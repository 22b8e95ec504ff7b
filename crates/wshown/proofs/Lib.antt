mod Characters
pub mod Lines
