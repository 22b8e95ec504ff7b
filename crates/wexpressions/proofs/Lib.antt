pub mod Steps
pub mod Rows
pub mod Fits
pub mod Parts
pub mod Singles
pub mod Gives
pub mod Lefts
pub mod Heights
