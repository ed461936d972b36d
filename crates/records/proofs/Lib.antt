pub mod Span
pub mod Words
pub mod Lines
pub mod Fields
pub mod Judging
pub mod Passing
pub mod Checking
