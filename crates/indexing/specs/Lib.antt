pub mod Index
pub mod Inner
