pub mod Outcomes
pub mod Replying
pub mod Delivering
pub mod LongFacts
pub mod LongTables
pub mod OneStream
pub mod Alike
