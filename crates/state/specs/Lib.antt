pub mod State
pub mod Engine
