pub mod Recipients
pub mod Records
pub mod Side
pub mod Six
