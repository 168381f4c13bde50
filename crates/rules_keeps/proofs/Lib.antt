pub mod Keeps
pub mod Next
