pub mod Lines
pub mod Kinds
pub mod Places
