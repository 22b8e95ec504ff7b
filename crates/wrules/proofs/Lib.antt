mod Judged
pub mod Worked
