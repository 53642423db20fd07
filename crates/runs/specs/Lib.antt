pub mod Run
pub mod Inner
