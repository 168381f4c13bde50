pub mod Below
pub mod Choice
pub mod Columns
pub mod Inner
