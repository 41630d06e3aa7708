pub mod Passes
pub mod Entering
