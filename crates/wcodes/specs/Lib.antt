pub mod Columns
pub mod Codes
pub mod Bases
pub mod CodedRows
pub mod Foretold
pub mod Ranks
