pub mod Decimal
pub mod Laying
pub mod Pinned
