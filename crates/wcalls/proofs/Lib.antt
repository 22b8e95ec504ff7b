pub mod WindowFacts
mod PlaceFacts
mod Answering
mod ArrangedFacts
mod PutFacts
mod PushedFacts
mod CallFacts
mod PlainFacts
mod CodeFacts
mod CountFacts
mod CutFacts
pub mod Listed
mod ListFacts
mod ColumnFacts
mod JoinFacts
mod WindowedFacts
mod PartitionFacts
mod OrderFacts
