pub mod Lines
pub mod Streams
