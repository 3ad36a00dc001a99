pub mod OneBlock
pub mod BlockRow
pub mod Ending
pub mod Placing
pub mod Pinned
