pub mod Peel
pub mod Settling
pub mod Theorems
pub mod Inner
