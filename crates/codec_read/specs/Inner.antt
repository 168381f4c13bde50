pub mod Seen
pub mod GoodUnit
