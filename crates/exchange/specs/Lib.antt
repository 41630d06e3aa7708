pub mod State
pub mod Trade
pub mod Faults
pub mod Commit
pub mod Life
pub mod Claims
pub mod Cases
