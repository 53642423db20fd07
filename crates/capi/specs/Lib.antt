pub mod Flat
pub mod Tells
