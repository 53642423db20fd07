pub mod Trials
pub mod Search
pub mod Completing
pub mod Theorems
pub mod Inner
