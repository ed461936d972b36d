pub mod Calls
pub mod Demands
pub mod Dealers
pub mod Loads
