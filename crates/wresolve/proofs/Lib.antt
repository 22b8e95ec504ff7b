mod Views
mod Placed
mod Listed
mod Queried
mod Cases
pub mod Grouped
