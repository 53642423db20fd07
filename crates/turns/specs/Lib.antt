pub mod Turn
pub mod Theorems
