pub mod Adding
pub mod Streaming
