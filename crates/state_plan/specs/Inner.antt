pub mod Tables
pub mod Fresh
pub mod Laws
pub mod Layout
