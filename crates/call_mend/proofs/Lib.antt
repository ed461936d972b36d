mod Steps
mod Going
pub mod Statements
