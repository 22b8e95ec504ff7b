pub mod OneText
pub mod Worked
pub mod Fronts
pub mod Texts
pub mod Digests
pub mod Faults
pub mod WholeReads
mod Before
pub mod OneJudgement
