pub mod Stages
pub mod Parts
