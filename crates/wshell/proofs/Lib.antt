pub mod Splitting
pub mod Keeping
pub mod Blanks
pub mod Fronts
pub mod Answering
pub mod Running
