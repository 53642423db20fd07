pub mod Session
pub mod Inner
