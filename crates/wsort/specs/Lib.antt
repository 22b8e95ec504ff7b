pub mod LaidRows
pub mod LaidKeys
pub mod Ordered
pub mod Dealt
pub mod Bucketed
pub mod Selected
