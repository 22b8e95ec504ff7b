pub mod Formulas
pub mod ConstantFacts
