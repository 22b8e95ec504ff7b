pub mod Formula
pub mod Constants
pub mod Parts
pub mod Plans
