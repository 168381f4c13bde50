pub mod Count
pub mod Held
pub mod Sends
pub mod Step
pub mod Events
pub mod Conserve
pub mod Samples
