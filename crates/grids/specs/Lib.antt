pub mod Text
pub mod Reading
pub mod Parts
pub mod Theorems
pub mod Examples
