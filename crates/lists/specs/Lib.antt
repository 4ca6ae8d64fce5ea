pub mod Lists
pub mod Over
