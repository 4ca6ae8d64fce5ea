pub mod Exports
pub mod Means
