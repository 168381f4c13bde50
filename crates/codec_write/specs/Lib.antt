pub mod Encode
pub mod Write
pub mod RoundTrip
pub mod Inner
