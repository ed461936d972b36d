pub mod Layout
pub mod Reading
pub mod Promises
pub mod Kinds
