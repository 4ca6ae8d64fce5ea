pub mod Answers
pub mod Fields
pub mod Reading
pub mod Buffers
pub mod Causes
pub mod Opening
pub mod Records
pub mod Pens
