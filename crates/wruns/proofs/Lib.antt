mod OneList
mod RefFacts
pub mod RunFacts
mod CutFacts
mod TableFacts
mod SharedFacts
mod GroupFacts
mod BlockFacts
mod HeadFacts
mod OrderingFacts
mod DifferFacts
pub mod DealingFacts
