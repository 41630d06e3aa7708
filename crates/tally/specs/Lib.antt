pub mod Least
pub mod Order
pub mod Tally
pub mod Total
