pub mod Rulings
pub mod Foundings
pub mod Applies
