pub mod Runs
pub mod Pairs
pub mod Stepping
pub mod Going
