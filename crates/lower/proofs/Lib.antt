pub mod Lifts
pub mod Ways
pub mod Numbers
