pub mod Accepted
pub mod Shapes
pub mod Few
pub mod Calls
pub mod Decision
pub mod Samples
pub mod TakeIn
