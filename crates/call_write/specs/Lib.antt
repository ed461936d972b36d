pub mod Promises
pub mod Reloads
pub mod Dealers
