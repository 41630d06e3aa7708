pub mod Format
pub mod Shown
pub mod Extent
pub mod Kinds
