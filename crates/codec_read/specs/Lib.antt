pub mod Verdict
pub mod Meaning
pub mod Samples
pub mod Inner
