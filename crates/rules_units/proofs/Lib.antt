pub mod Tags
pub mod Units
pub mod Effects
pub mod Releases
