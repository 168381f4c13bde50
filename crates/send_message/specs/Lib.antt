pub mod Message
pub mod Send
pub mod Handle
pub mod Inner
