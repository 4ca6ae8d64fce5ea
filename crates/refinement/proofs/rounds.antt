pub mod First
pub mod Going
pub mod Narrowing
pub mod Replacing
pub mod Underway
