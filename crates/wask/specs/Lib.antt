pub mod Texts
pub mod Answer
pub mod Laws
