pub mod Cells
pub mod Calls
pub mod Planners
pub mod InUse
pub mod Demand3
pub mod Answers
pub mod Numbered
