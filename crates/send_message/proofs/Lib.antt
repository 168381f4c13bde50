pub mod Owned
pub mod Sizes
