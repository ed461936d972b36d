pub mod Laws
pub mod Turns
pub mod Literals
pub mod Same
pub mod Eights
