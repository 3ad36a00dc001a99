pub mod Blocks
pub mod Newest
