pub mod Trade
pub mod History
pub mod Samples
pub mod Inner
