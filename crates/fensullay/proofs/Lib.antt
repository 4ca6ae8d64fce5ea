pub mod Exported
pub mod Checking
pub mod ReturnCodes
pub mod Theorems
