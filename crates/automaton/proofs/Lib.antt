pub mod Chunks
pub mod Checked
pub mod Encoding
pub mod Rows
pub mod TableCauses
pub mod Theorems
pub mod Examples
