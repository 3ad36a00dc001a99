pub mod LeftOver
pub mod TextCalls
pub mod LogCalls
