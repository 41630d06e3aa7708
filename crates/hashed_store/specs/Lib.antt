pub mod Index
pub mod Probing
