pub mod Places
pub mod Numbers
pub mod Crc
pub mod Words
