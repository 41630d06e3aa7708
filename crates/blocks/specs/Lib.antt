pub mod Readable
pub mod Stages
pub mod Drafts
pub mod Decoded
pub mod Laws
