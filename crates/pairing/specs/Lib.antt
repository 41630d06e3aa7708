pub mod Headings
pub mod Alike
