pub mod Cutting
pub mod Filling
