pub mod Changed
pub mod Records
pub mod Run
pub mod Units
