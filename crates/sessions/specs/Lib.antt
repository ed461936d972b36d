pub mod Reading
pub mod Lower
pub mod Both
