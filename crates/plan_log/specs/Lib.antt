pub mod Log
pub mod PowerCut
