pub mod Table
pub mod Value
pub mod Check
pub mod Inner
