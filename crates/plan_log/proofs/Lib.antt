pub mod Pinned
pub mod PowerCut
