pub mod At
pub mod Inner
