mod Rows
mod ReferenceFacts
mod PlanFacts
mod LentFacts
pub mod CallFacts
pub mod SelectFacts
mod BesideFacts
mod CountedFacts
mod FrontFacts
mod LeadingFacts
mod Worked
