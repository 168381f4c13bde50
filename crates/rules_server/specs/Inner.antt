pub mod Change
pub mod Flag
pub mod Notify
pub mod Record
pub mod Units
