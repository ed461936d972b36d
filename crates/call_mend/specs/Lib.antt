pub mod Mend
pub mod Promises
mod Samples
