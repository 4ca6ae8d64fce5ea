pub mod Answers
pub mod Tree
pub mod Postfix
pub mod Subtree
pub mod Walk
pub mod Inner
pub mod Holds
pub mod Run
