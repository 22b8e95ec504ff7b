mod ViewFloors
pub mod Joining
pub mod Union
pub mod Later
mod Greatest
mod Merging
pub mod Singles
mod Settling
mod Maps
mod Sets
mod Tables
mod Tails
mod RunFacts
mod KeptOrderFacts
mod LiveFacts
mod KeptSets
