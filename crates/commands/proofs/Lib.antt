mod Fields
pub mod Cuts
