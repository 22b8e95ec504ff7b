pub mod Scene
pub mod Keys
pub mod Breaches
pub mod Names
pub mod Items
pub mod Notes
pub mod Made
pub mod Selects
