pub mod Reach
pub mod Ask
pub mod Place
pub mod Kind
pub mod Refusal
