pub mod Within
pub mod Firsts
pub mod Ungrouped
mod Entered
mod Asked
mod Found
mod KnownItems
