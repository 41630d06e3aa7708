pub mod Bounds
pub mod Next
pub mod Cursor
pub mod Walks
pub mod Pairs
pub mod Ends
pub mod Volumes
