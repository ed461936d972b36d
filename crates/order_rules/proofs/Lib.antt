mod Looks
mod BlockLaws
mod Places
mod Chain
pub mod JudgeLaws
pub mod PlaceLaws
