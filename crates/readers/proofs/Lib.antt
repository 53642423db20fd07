pub mod Cases
pub mod Taken
pub mod Answers
pub mod Numbered
