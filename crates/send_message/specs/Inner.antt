pub mod Stands
pub mod Form
pub mod Kinds
