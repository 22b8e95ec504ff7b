mod Accepted
mod Answered
mod Nodes
pub mod OneAnswer
pub mod Read
mod SoundCalls
mod SoundWindows
