pub mod Chain
pub mod Numbers
pub mod Attributes
pub mod Tags
pub mod Cycle
pub mod Prologue
pub mod Encoding
