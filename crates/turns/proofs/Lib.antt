pub mod Places
pub mod Carrying
pub mod Generators
pub mod Turned
pub mod Theorems
