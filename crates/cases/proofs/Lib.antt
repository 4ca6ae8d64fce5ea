mod Spaced
pub mod Theorems
