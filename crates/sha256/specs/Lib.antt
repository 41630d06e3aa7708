pub mod Functions
pub mod Padding
pub mod Compression
pub mod Digest
pub mod Streaming
pub mod Hex
