pub mod Check
pub mod Query
pub mod Inner
