pub mod Simulation
pub mod Inner
pub mod Rows
