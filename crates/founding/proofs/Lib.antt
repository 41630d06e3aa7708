pub mod Verdicts
pub mod Openings
