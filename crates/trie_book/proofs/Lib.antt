pub mod Digits
pub mod Flats
