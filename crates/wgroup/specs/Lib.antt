pub mod Grouping
pub mod Sight
pub mod Table
pub mod Held
pub mod Finer
pub mod Laws
pub mod Counting
pub mod Shared
