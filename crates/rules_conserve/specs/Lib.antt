pub mod Conserve
pub mod Samples
