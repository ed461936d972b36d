pub mod Blocks
pub mod Judging
