pub mod Explanations
pub mod Labels
