pub mod Only
pub mod Inner
