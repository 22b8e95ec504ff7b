pub mod Grammar
pub mod Grips
pub mod Finding
pub mod Depth
