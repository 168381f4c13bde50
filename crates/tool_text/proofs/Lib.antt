pub mod Lengths
pub mod Parses
pub mod Words
