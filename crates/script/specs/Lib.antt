pub mod Fields
pub mod Digits
