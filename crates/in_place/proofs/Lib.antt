-- Laws for a reader.
pub mod Agree
pub mod Counting
