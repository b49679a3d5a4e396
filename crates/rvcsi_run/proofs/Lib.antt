-- Laws of a run.
pub mod Steps
pub mod Firsts
