pub mod Looks
pub mod Links
mod TypeFacts
mod StarColumns
mod WrittenOut
mod Indexed
mod Made
mod Own
pub mod Grouped
mod Placed
