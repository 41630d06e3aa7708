pub mod Next
pub mod Ahead
pub mod Bounds
