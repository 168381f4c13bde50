pub mod Releases
pub mod Inner
