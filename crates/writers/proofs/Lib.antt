pub mod Answers
pub mod Records
pub mod Accepted
pub mod Within
pub mod Numbered
