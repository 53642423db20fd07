pub mod Listing
pub mod Parts
pub mod Examples
