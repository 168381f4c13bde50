pub mod Readable
pub mod Room
