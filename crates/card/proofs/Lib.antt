pub mod Divisors
pub mod Table
