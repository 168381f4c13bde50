pub mod Write
pub mod Message
