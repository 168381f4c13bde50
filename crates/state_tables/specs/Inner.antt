pub mod Column
pub mod Differ
pub mod Every
pub mod Laws
pub mod Limits
pub mod Rows
pub mod Sound
