pub mod Entries
pub mod Run
pub mod Found
