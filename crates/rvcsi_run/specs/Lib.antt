-- What a run over a recording promises by.
pub mod Frames
pub mod Course
pub mod Step
pub mod First
