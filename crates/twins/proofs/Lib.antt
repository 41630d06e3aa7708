pub mod Fair
pub mod Begin
