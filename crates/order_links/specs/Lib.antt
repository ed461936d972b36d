pub mod Chains
pub mod Stacks
pub mod Acts
pub mod Total
pub mod Once
