pub mod Bits
pub mod SetLaws
pub mod DownLaws
