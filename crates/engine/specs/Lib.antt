pub mod Buffers
pub mod Step
pub mod Answers
pub mod Respects
pub mod Exports
pub mod Settling
