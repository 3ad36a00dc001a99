pub mod Admitted
pub mod Pinned
