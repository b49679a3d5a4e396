-- Laws of reading a recording.
pub mod Hearing
