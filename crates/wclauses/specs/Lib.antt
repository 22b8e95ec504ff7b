pub mod Tokens
pub mod Pairs
pub mod Settling
pub mod Clauses
