pub mod RowFacts
pub mod SpanPlaces
pub mod TileFacts
pub mod RankFacts
pub mod DenseFacts
