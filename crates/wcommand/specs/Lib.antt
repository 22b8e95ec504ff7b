pub mod CommandSet
pub mod Choices
pub mod Inputs
pub mod Required
pub mod ShownTexts
