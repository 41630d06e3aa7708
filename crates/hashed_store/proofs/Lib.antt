pub mod Starts
pub mod Probes
pub mod Links
pub mod Stores
