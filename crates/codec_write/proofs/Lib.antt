pub mod Lists
pub mod Verdicts
pub mod Writes
pub mod Plain
pub mod RoundTrip
pub mod Samples
