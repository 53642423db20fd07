pub mod Along
pub mod Buffers
pub mod Cases
pub mod Fits
pub mod Reports
pub mod Examples
pub mod Planned
