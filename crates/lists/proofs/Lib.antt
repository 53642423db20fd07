pub mod Lists
pub mod ListAccepts
pub mod ListExamples
pub mod Numbered
pub mod Taking
