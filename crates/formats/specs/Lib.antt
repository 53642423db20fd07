pub mod Number
pub mod Records
pub mod Parts
pub mod Ascii
