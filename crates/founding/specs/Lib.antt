pub mod Judged
pub mod Granting
