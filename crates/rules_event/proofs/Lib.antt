pub mod Samples
pub mod Hold
pub mod Calls
