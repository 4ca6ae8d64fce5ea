pub mod Steps
pub mod Inner
pub mod Irreducible
