pub mod Admissions
