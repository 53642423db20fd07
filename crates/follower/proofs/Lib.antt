pub mod Nodes
pub mod Judging
