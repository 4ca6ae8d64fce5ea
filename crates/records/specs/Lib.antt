pub mod Bytes
pub mod Record
pub mod Refusal
pub mod Kind
pub mod Answers
pub mod Read
pub mod Output
pub mod Pen
