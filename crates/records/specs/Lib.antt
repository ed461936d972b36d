pub mod Reading
pub mod Table
pub mod Calls
pub mod Limits
pub mod Check
