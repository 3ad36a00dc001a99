pub mod Handing
pub mod Covered
pub mod Damaged
pub mod Taking
pub mod Cutting
pub mod Pinned
