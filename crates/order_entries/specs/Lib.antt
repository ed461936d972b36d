pub mod Reading
pub mod Acts
pub mod Gathering
