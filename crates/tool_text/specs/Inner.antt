pub mod Parse
pub mod Room
