pub mod Altering
pub mod Tallies
