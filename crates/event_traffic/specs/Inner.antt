pub mod Aims
pub mod Named
