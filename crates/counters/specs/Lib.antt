pub mod Count
pub mod Inner
