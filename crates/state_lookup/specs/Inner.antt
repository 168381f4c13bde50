pub mod Links
pub mod Servers
pub mod Table
pub mod Index
