pub mod Remainders
pub mod Clear
