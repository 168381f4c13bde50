pub mod Number
pub mod Walk
pub mod Refusal
