pub mod Laws
pub mod Ranks
pub mod Refused
pub mod Owners
pub mod Names
pub mod Alone
pub mod Of
