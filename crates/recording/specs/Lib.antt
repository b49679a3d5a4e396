-- What reading a recording promises by.
pub mod Place
pub mod Heard
