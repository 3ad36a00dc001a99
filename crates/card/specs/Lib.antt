pub mod Cards
pub mod Table
