pub mod Entries
pub mod Set
pub mod Inner
