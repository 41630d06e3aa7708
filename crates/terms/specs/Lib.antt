pub mod Bytes
pub mod Order
pub mod Ranges
pub mod Holdings
pub mod Causes
pub mod Asked
