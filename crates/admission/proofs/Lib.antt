pub mod Listed
pub mod Admitting
pub mod Pinned
