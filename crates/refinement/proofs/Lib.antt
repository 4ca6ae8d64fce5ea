pub mod Refinement
pub mod Simulations
pub mod Maximality
pub mod Pairs
pub mod RelationRows
pub mod Answering
pub mod RuleRows
