pub mod Change
pub mod Notify
pub mod Record
pub mod Units
pub mod Inner
