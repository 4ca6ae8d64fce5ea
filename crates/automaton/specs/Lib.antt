pub mod Automaton
pub mod Row
pub mod Decoded
pub mod Table
pub mod Inner
