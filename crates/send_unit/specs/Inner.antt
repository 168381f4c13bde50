pub mod Words
pub mod Units
pub mod Made
