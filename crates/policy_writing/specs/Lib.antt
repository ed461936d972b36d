pub mod Lines
pub mod Laying
pub mod Answers
mod Samples
