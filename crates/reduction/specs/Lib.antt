pub mod Reduce
pub mod Demand3
pub mod Inner
pub mod Laws
