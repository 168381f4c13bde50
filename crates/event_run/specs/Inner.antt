pub mod Columns
pub mod Perform
pub mod Decided
pub mod Performed
