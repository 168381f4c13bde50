pub mod Below
pub mod Choice
pub mod Columns
pub mod Count
pub mod Every
pub mod Rank
