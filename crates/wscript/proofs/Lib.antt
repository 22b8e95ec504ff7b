pub mod Quiet
pub mod Behind
pub mod Bodies
pub mod Spelling
