pub mod Question
pub mod Promises
mod Samples
