mod Steps
mod Drafting
mod Walking
mod Fitting
pub mod Laws
