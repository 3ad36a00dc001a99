pub mod Offsets
pub mod Hyperperiods
pub mod Refusing
pub mod Cards
pub mod Held
pub mod Copied
