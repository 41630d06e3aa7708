pub mod Rising
pub mod Cuts
pub mod Shift
