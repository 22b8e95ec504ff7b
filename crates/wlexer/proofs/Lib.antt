pub mod Boundaries
pub mod KeywordSearch
pub mod Quotes
pub mod OneLexing
pub mod Parts
pub mod SomeLexing
pub mod Steps
