pub mod Sets
pub mod Round
pub mod Puts
