pub mod Number
pub mod Steps
pub mod Refusals
