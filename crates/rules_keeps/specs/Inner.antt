pub mod Good
pub mod Keeps
pub mod Units
