pub mod Ranges
pub mod Bounds
pub mod Clears
pub mod Committing
