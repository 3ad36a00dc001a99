pub mod Reading
pub mod LineNumbers
