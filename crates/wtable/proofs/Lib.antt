mod HeldFacts
pub mod SourceFacts
pub mod LiveFacts
pub mod ColumnFacts
mod DifferFacts
pub mod NumberFacts
pub mod ReferenceFacts
mod CountedFacts
mod ServedFacts
pub mod FirstFacts
pub mod FrontFacts
pub mod LeadingFacts
