pub mod Places
pub mod Digits
pub mod Fields
pub mod Parts
