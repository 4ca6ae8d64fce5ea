pub mod Decimal
pub mod Text
pub mod Reporting
pub mod Theorems
pub mod Examples
