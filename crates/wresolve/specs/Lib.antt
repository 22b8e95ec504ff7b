pub mod Selecting
pub mod Shown
pub mod Outcomes
pub mod Laws
pub mod Judging
