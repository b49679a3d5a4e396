pub mod Numbers
pub mod Fields
pub mod Records
pub mod Answers
pub mod Parts
