pub mod RowFacts
mod CodedFacts
pub mod DealFacts
pub mod ChainFacts
mod TwoFacts
pub mod KeyFacts
mod SelectFacts
