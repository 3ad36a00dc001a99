pub mod FromBack
pub mod Lists
pub mod CutBack
pub mod Carried
pub mod PowerCut
