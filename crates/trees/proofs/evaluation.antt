pub mod Answering
pub mod Entries
pub mod Holding
pub mod NodeStates
pub mod Nodes
pub mod Stacks
