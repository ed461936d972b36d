pub mod Pile
pub mod Promises
mod Samples
