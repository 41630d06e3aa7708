pub mod Places
pub mod Merge
pub mod Finds
pub mod Nets
pub mod Orders
pub mod Tells
