pub mod Laws
mod LineLaws
pub mod Ways
