pub mod Cases
pub mod Answers
pub mod Trip
pub mod Records
pub mod Stands
pub mod Numbered
pub mod Runs
