pub mod Lists
pub mod EntryFacts
pub mod Floors
pub mod Finding
pub mod BlockFacts
pub mod Lives
mod Cutting
pub mod Lows
pub mod Sizes
mod Origins
mod Falls
mod DealtFacts
pub mod AddedFacts
