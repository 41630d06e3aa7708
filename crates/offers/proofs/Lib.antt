pub mod Sound
pub mod Edits
pub mod Replies
pub mod Replaces
