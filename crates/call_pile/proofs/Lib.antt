pub mod Judging
pub mod Turns
pub mod Ways
pub mod Statements
