pub mod NumberFacts
pub mod MoreSorting
pub mod CodeFacts
mod RankFacts
mod PlaceFacts
mod SeenFacts
mod ByteFacts
mod ForetoldFacts
