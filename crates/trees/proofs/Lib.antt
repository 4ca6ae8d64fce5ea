pub mod Examples
pub mod Subtrees
pub mod Postfix
pub mod Naming
pub mod Runs
pub mod Theorems
pub mod Walking
