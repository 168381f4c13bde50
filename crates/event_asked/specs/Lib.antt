pub mod Happened
pub mod Inner
