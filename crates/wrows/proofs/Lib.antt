pub mod RowFacts
mod BesideFacts
mod AllFacts
mod PickFacts
mod CutFacts
mod FirstFacts
mod PresortedFacts
mod TestFacts
pub use Rattle.wcodes.proofs.MoreSorting
pub use Rattle.wsort.proofs.ChainFacts
pub use Rattle.wsort.proofs.KeyFacts
