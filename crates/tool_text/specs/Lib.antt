pub mod Digits
pub mod Parse
pub mod Word
pub mod Inner
