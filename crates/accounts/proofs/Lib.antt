pub mod Sound
pub mod Eights
pub mod Edits
pub mod Replies
pub mod Grants
