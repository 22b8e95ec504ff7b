pub mod Values
pub mod Cells
pub mod Conditions
pub mod Leaves
pub mod NumberTests
pub mod Joining
pub mod Reads
