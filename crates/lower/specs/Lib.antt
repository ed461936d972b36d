pub mod Stepped
pub mod Answers
pub mod Exports
