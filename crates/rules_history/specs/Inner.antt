pub mod Local
pub mod Trade
